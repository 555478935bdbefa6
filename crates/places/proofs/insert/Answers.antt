-- Room is made at the notice's place and the notice put there: `puts_in`.
use mathlib.Core.Path.{◌≡◌, ap, ◌∙◌}
use mathlib.Core.List.{List}
use borrow.Author.Rules.{rules}
use lib.ListN.{length, set}
use Rattle.notices.specs.declared.Notice.{Notice}
use Rattle.places.proofs.Keeping.{puts_in}
use Rattle.places.proofs.insert.Goals as goal

pub returns : goal.returns
returns c =
    let p = c.place-p in
    let full : length c.args.notices.now ≡ 48 = search rules in
    ap (λ (ns : List Notice). set ns p.result c.args.x) c.moved.ensures
    ∙ puts_in c.args.count c.args.notices.now c.requires.1 full c.args.x p.result p.ensures.0 c.requires.0
