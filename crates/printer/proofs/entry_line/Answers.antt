-- The entry of each kind of action, and the line that tells its answer.
use mathlib.Core.Path.{refl, ap}
use Rattle.std.proofs.Common.{Ok}
use Rattle.changes.proofs.After.{files_leave, withdraws_leave, nothing_changes}
use Rattle.printer.proofs.Turns.{line_told}
use Rattle.printer.proofs.entry_line.Goals as goal

pub returns-in-File : goal.returns-in-File
returns-in-File c =
    let files = c.file-answer.ensures in
    line_told (ap Ok c.in-File.is) (_, files, refl) (files_leave _ _ _ files) c.file_line.ensures

pub returns-in-Withdraw : goal.returns-in-Withdraw
returns-in-Withdraw c =
    let withdraws = c.withdraw-answer.ensures in
    line_told (ap Ok c.in-Withdraw.is) (_, withdraws, refl) (withdraws_leave _ _ _ withdraws) c.withdraw_line.ensures

pub returns-in-Route : goal.returns-in-Route
returns-in-Route c = line_told (ap Ok c.in-Route.is) (_, c.routed-answer.ensures, refl) (nothing_changes _) c.route_line.ensures
