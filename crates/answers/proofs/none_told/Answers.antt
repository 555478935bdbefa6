-- The stage after its word, and the number after its own.
use native.Mathlib.Omega.{arith}
use Rattle.words.proofs.Writing.{wrote_more}
use Rattle.answers.proofs.none_told.Goals as goal

pub returns : goal.returns
returns c =
    let a = c.args in
    let room = c.requires in
    let stage = c.named_number-end in
    let by = c.number_told in
    let short = stage.ensures.1 in
    let ends = by.ensures.1 in
    (wrote_more a.out.now a.at (omega arith) stage.ensures.0 by.ensures.0, omega arith)
