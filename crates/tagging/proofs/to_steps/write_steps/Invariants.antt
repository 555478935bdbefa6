-- The loop holds the switch of column i, and the memory starts with the first i steps of the tag.
use mathlib.Core.Path.{◌≡◌}
use mathlib.Core.List.{◌++◌}
use Prim.Native.Nat.{◌≤◌, ◌<◌}
use lib.ListN.{length, take, drop}
use Rattle.fabric.specs.Labels.{size}
use Rattle.fabric.specs.Walks.{switch_at}
use Rattle.scheme.specs.Tags.{steps_of}
use Rattle.tagging.proofs.to_steps.write_steps.Given as goal

abbrev pub invariant-loop-i : goal.invariant-loop-i
invariant-loop-i l =
    (l.i ≤ l.fabric.n) × (l.fabric.n ≤ length l.initial.memory) × (l.j < size l.fabric.n) × (l.j ≡ switch_at l.fabric.n l.source (steps_of l.fabric.n l.source l.tag) l.i)
    × (l.memory ≡ take l.i (steps_of l.fabric.n l.source l.tag) ++ drop l.i l.initial.memory) × (length l.memory ≡ length l.initial.memory)
