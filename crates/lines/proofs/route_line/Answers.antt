-- The two labels, each after its word, and the answer.
use native.Mathlib.Omega.{arith}
use Rattle.words.proofs.Writing.{wrote_more}
use Rattle.lines.proofs.route_line.Goals as goal

pub returns : goal.returns
returns c =
    let a = c.args in
    let room = c.requires in
    let from = c.named_number-between in
    let to = c.named_number-end in
    let end = c.found_told in
    let short = from.ensures.1 in
    let kept = from.auto.out in
    let short2 = to.ensures.1 in
    let ends = end.ensures.1 in
    (wrote_more a.out.now a.at (omega arith) from.ensures.0 (wrote_more from.new.out from.result (omega arith) to.ensures.0 end.ensures.0), omega arith)
