use mathlib.Core.Path.{sym, ◌∙◌}
use Rattle.router.proofs.Telling.{told_start, told_with, told_without, told_end}
use Rattle.router.proofs.stopped.Goals as goal
use Rattle.router.proofs.stopped.Goals.{then-counts, else-counts}

pub loop-x-init : goal.loop-x-init
loop-x-init c = rw c.none-stops.ensures (told_start _ _ _ _ c.requires.2)

pub loop-x-preserved : goal.loop-x-preserved
loop-x-preserved c =
    let v = c.loop-x in
    elim c.if-counts.branch [
      | then-counts w ↦ rw w.stops-is (told_with _ _ _ _ _ v.x-index c.loop-x-test.true v.invariant (sym c.counts.ensures ∙ w.if-counts.true) w.with_notice-stops.ensures)
      | else-counts w ↦ rw w.stops-is (told_without _ _ _ _ _ v.x-index c.loop-x-test.true v.invariant (sym c.counts.ensures ∙ w.if-counts.false))
    ]

pub returns : goal.returns
returns c = told_end _ _ _ _ _ c.loop-x-test.false c.loop-x.invariant
