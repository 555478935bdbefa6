use mathlib.Core.Path.{refl}
use Rattle.changes.proofs.After.{nothing_changes}
use Rattle.printer.proofs.Turns.{line_told}
use Rattle.printer.proofs.line.Goals as goal

pub returns-in-Err : goal.returns-in-Err
returns-in-Err c = line_told c.in-Err.is refl (nothing_changes _) c.fault_line.ensures
