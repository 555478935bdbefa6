-- One after the other.
use native.Mathlib.Omega.{arith}
use Rattle.words.proofs.Writing.{wrote_more}
use Rattle.words.proofs.named_number.Goals as goal

pub returns : goal.returns
returns c =
    let a = c.args in
    let room = c.requires in
    let first = c.word-mid in
    let digits = c.number in
    let ends = first.ensures.ends in
    let short = digits.ensures.1 in
    (wrote_more a.out.now a.at (omega arith) first.ensures digits.ensures.0, omega arith)
