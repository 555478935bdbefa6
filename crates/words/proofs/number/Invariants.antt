-- From the end down to i the last digits lie in their places, and the digits of what is left of the number are those before them.
use mathlib.Core.Path.{◌≡◌}
use mathlib.Core.List.{List, ◌++◌}
use Prim.Native.Nat.{ℕ, ◌-◌, ◌≤◌}
use lib.ListN.{length}
use Rattle.printed.specs.Words.{decimal}
use Rattle.words.specs.Wrote.{Wrote}
use Rattle.words.specs.LastDigits.{last_digits}
use Rattle.words.proofs.number.Given as goal

abbrev pub invariant-loop-i : goal.invariant-loop-i
invariant-loop-i l =
    (l.at ≤ l.i) × (length l.out ≡ length l.initial.out)
    × ((tail : List ℕ) × (last_digits (l.i - l.at) l.rest ++ tail ≡ decimal l.x) × Wrote l.initial.out l.i tail l.out l.end)
