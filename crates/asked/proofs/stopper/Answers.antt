-- The first notice that names the link is found; in a sound book its number is the lowest.
use mathlib.Core.Path.{ap, ◌∙◌}
use Rattle.notices.specs.Notices.{names, unfit}
use Rattle.book.specs.Standing.{standing}
use Rattle.asked.specs.Lower.{first_number}
use Rattle.asked.proofs.Lower.{first_is_lowest}
use Rattle.asked.proofs.Testing.{filed_in}
use Rattle.asked.proofs.stopper.Goals as goal

pub returns : goal.returns
returns c =
    let a = c.args in
    let b = a.book.now.book in
    c.first_number.ensures
    ∙ ap (first_number (λ x. names b.n x a.stage a.switch a.code)) c.notices.ensures
    ∙ first_is_lowest (λ x. names b.n x a.stage a.switch a.code) (unfit b.n) 0 (standing b) (filed_in b a.stage a.switch a.code a.book.now.sound)
