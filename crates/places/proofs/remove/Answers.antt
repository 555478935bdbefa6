-- The later notices move down over the notice's place, and the filler takes the place that comes free: `takes_out`.
use mathlib.Core.Path.{◌≡◌, ap, ◌∙◌}
use mathlib.Core.List.{List}
use Prim.Native.Nat.{◌-◌}
use borrow.Author.Rules.{rules}
use lib.ListN.{length, set}
use Rattle.notices.specs.declared.Notice.{Notice}
use Rattle.standing.specs.Rising.{filler}
use Rattle.places.proofs.Keeping.{takes_out}
use Rattle.places.proofs.remove.Goals as goal

pub returns : goal.returns
returns c =
    let p = c.place-p in
    let full : length c.args.notices.now ≡ 48 = search rules in
    ap (λ (ns : List Notice). set ns (c.args.count - 1) filler) c.moved.ensures
    ∙ takes_out c.args.count c.args.notices.now c.requires.1 full c.requires.3.0 c.args.k p.result p.ensures.0 c.requires.0 c.requires.2 c.requires.3.1
