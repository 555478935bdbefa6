-- A digit, and one more for each power of ten that the number reaches.
use borrow.Author.Rules.{rules}
use Rattle.words.proofs.LastDigits.{digits_counted}
use Rattle.words.proofs.digits.Goals as goal

pub returns : goal.returns
returns c =
    let p = c.reaches.ensures in
    let q = c.reaches-2.ensures in
    let r = c.reaches-3.ensures in
    let s = c.reaches-4.ensures in
    (digits_counted {x = c.args.x} (search rules) p q r s, search rules)
