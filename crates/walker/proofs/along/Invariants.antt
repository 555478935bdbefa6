-- The loop holds the switch of column i, and the links passed are clear.
use mathlib.Core.Path.{◌≡◌}
use Prim.Native.Nat.{◌-◌, ◌≤◌, ◌<◌}
use Rattle.fabric.specs.Labels.{size}
use Rattle.fabric.specs.Walks.{switch_at}
use Rattle.scheme.specs.Tags.{steps_of}
use Rattle.book.specs.Standing.{stops_of}
use Rattle.walker.proofs.Walking.{ClearUpTo}
use Rattle.walker.proofs.along.Given as goal

abbrev pub invariant-loop-i : goal.invariant-loop-i
invariant-loop-i l =
    let n = l.book.book.n in
    (l.i ≤ n) × (l.j < size n) × (l.j ≡ switch_at n l.source (steps_of n l.source l.tag) l.i) × ClearUpTo n (stops_of l.book.book) l.source l.tag l.i

abbrev pub decreases-loop-i : goal.decreases-loop-i
decreases-loop-i l = l.book.book.n - l.i
