-- The number after its word, and the answer.
use native.Mathlib.Omega.{arith}
use Rattle.words.proofs.Writing.{wrote_more}
use Rattle.lines.proofs.notice_line.Goals as goal

pub returns : goal.returns
returns c =
    let a = c.args in
    let room = c.requires in
    let first = c.named_number-end in
    let end = c.answer_told in
    let short = first.ensures.1 in
    let ends = end.ensures.1 in
    (wrote_more a.out.now a.at (omega arith) first.ensures.0 end.ensures.0, omega arith)
