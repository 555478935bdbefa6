use mathlib.Core.Path.{refl}
use native.Mathlib.Omega.{arith}
use native.Mathlib.Numerals.{add-one}
use Rattle.words.proofs.Writing.{wrote_length}
use Rattle.printer.proofs.Turns.{no_lines, opened_first, lines_more, left_after}
use Rattle.printer.proofs.lines.Goals as goal

pub loop-k-init : goal.loop-k-init
loop-k-init c =
    let a = c.args in
    (no_lines _ _ _ _ (omega arith), refl, opened_first _ c.open-book.ensures)

pub loop-k-preserved : goal.loop-k-preserved
loop-k-preserved c =
    let a = c.args in
    let v = c.loop-k in
    let reads = rw c.action_part-part.ensures.bytes at c.read_action.ensures in
    let line = c.line-next.ensures in
    let lines = lines_more v.invariant.2 reads (omega arith) v.invariant.0 line in
    let short = lines.short in
    (rw add-one lines, wrote_length a.out.now a.at (omega arith) lines.wrote (omega arith), rw add-one (left_after v.invariant.2 reads line))
