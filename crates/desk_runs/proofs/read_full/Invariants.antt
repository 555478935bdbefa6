-- Each turn brings at least one byte, and no more than there is room for.
use Rattle.std.proofs.Common.{◌≡◌, ◌-◌, ◌≤◌, length}
use Rattle.desk_runs.proofs.read_full.Given as goal

abbrev pub invariant-loop-bytes : goal.invariant-loop-bytes
invariant-loop-bytes g l = (length l.memory ≡ length l.initial.memory) × (l.bytes ≤ length l.memory)

abbrev pub decreases-loop-bytes : goal.decreases-loop-bytes
decreases-loop-bytes g l = length l.initial.memory - l.bytes
