-- Two words and 2n bits, one after the other.
use native.Mathlib.Omega.{arith}
use Rattle.words.proofs.Writing.{wrote_more}
use Rattle.answers.proofs.tag_told.Goals as goal

pub returns : goal.returns
returns c =
    let a = c.args in
    let blank = c.word-mid in
    let digits = c.bits-end in
    let end = c.word in
    (wrote_more a.out.now a.at (omega arith) blank.ensures (wrote_more blank.new.out blank.result (omega arith) digits.ensures.0 end.ensures), omega arith)
