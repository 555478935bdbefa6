-- After i bits of the number, the states of as many stages.
use Rattle.std.proofs.Common.{◌≡◌}
use Rattle.frontier.specs.Frontier.{mirrored}
use Rattle.frontier.proofs.Front.first_states.Given as goal

abbrev pub invariant-loop-i : goal.invariant-loop-i
invariant-loop-i l = l.states ≡ mirrored l.i l.walk
