-- The loop holds the switch of column i and the states of the first i steps.
use mathlib.Core.Path.{◌≡◌}
use Prim.Native.Nat.{◌≤◌, ◌<◌}
use lib.ListN.{length, take}
use Rattle.fabric.specs.Labels.{size}
use Rattle.fabric.specs.Walks.{switch_at}
use Rattle.scheme.specs.Tags.{states_of}
use Rattle.tagging.proofs.to_tag.read_steps.Given as goal

abbrev pub invariant-loop-i : goal.invariant-loop-i
invariant-loop-i l =
    (l.i ≤ l.fabric.n) × (l.fabric.n ≤ length l.memory) × (l.j < size l.fabric.n) × (l.j ≡ switch_at l.fabric.n l.source (take l.fabric.n l.memory) l.i)
    × (l.states ≡ states_of l.fabric.n 0 l.source (take l.i (take l.fabric.n l.memory)))
