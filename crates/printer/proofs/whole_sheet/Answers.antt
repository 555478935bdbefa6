-- The first line, and the lines after it.
use mathlib.Core.Path.{refl}
use native.Mathlib.Omega.{arith}
use Rattle.words.proofs.Writing.{wrote_more}
use Rattle.printer.proofs.Written.{runs_written}
use Rattle.printer.proofs.whole_sheet.Goals as goal

pub returns : goal.returns
returns c =
    let a = c.args in
    let first = c.sheet_line-at.ensures.0 in
    let w = c.lines.ensures in
    let enough = c.if-out-header.false in
    runs_written a.sheet.now _ a.out.now (omega arith) (w.text, w.tells, refl) (wrote_more a.out.now 0 (omega arith) first w.wrote)
    (let s = w.short in let f = c.sheet_line-at.ensures.1 in omega arith)
