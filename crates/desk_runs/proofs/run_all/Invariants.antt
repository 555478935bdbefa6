-- Each turn goes on by a sheet.
use Rattle.std.proofs.Common.{length}
use Rattle.desk_runs.proofs.run_all.Given as goal

abbrev pub decreases-loop-sheet : goal.decreases-loop-sheet
decreases-loop-sheet l = length l.rest
