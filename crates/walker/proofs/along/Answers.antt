use mathlib.Core.Path.{refl, sym, ◌∙◌}
use native.Mathlib.Omega.{arith}
use borrow.Author.Rules.{rules}
use Rattle.fabric.specs.Walks.{walked}
use Rattle.book.specs.Standing.{stops_of}
use Rattle.questions.proofs.Testing.{number_given, none_given}
use Rattle.walker.proofs.Walking.{clear_more, stopped_here, next_switch, walk_ends}
use Rattle.walker.proofs.along.Goals as goal

pub loop-i-init : goal.loop-i-init
unfolding walked
loop-i-init c = (search rules, search rules, refl, λ k h. absurd (omega arith))

pub loop-i-preserved : goal.loop-i-preserved
loop-i-preserved c =
    let a = c.args in
    let b = a.book.now.book in
    let v = c.loop-i in
    let w = v.invariant in
    let uses = c.step_of-code.ensures.0 in (
      omega arith,
      c.landing-j.ensures.1,
      c.landing-j.ensures.0 ∙ next_switch b.n (stops_of b) a.source a.tag v.i v.j _ (omega arith) w.2 uses,
      clear_more b.n (stops_of b) a.source a.tag v.i v.j _ (omega arith) w.2 uses w.3 (none_given _ (sym c.stopper.ensures ∙ c.in_default.is)),
    )

pub returns-then-i-fabric : goal.returns-then-i-fabric
returns-then-i-fabric c =
    let a = c.args in
    let b = a.book.now.book in
    let v = c.loop-i in
    walk_ends b.n (stops_of b) a.source a.tag v.i v.j _ c.if-i-fabric.true v.invariant.2 v.invariant.3 c.end_at.ensures

pub returns-in-Some : goal.returns-in-Some
returns-in-Some c =
    let a = c.args in
    let b = a.book.now.book in
    let v = c.loop-i in
    let stops = number_given _ _ (sym c.stopper.ensures ∙ c.in-Some.is) in
    stopped_here b.n (stops_of b) a.source a.tag v.i v.j _ (omega arith) v.invariant.2 c.step_of-code.ensures.0 _ v.invariant.3 stops.0 stops.1
