-- The word and the refusal, one after the other.
use native.Mathlib.Omega.{arith}
use Rattle.words.proofs.Writing.{wrote_more}
use Rattle.lines.proofs.fault_line.Goals as goal

pub returns : goal.returns
returns c =
    let a = c.args in
    let first = c.word-end in
    let end = c.refusal_told in
    (wrote_more a.out.now a.at (omega arith) first.ensures end.ensures.0, omega arith)
