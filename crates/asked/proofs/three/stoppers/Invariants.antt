-- The pass goes from the last notice to the first, so what it holds is said of the notices from where it is on, for each of the three links. It leans on
-- proofs/Judging.
use mathlib.Core.Path.{◌≡◌}
use Prim.Native.Nat.{ℕ}
use lib.ListN.{length}
use Rattle.std.specs.Prelude.{Option}
use Rattle.notices.specs.Notices.{names}
use Rattle.book.specs.Standing.{standing}
use Rattle.asked.specs.Lower.{first_number}
use Rattle.asked.proofs.Judging.{last}
use Rattle.asked.proofs.three.stoppers.Given as goal

abbrev pub invariant-loop-x : goal.invariant-loop-x
invariant-loop-x l =
    let lowest : ℕ → Option ℕ = λ c. first_number (λ x. names l.book.book.n x l.stage l.switch c) (last (length l.yielded) (standing l.book.book)) in
    (l.found.straight ≡ lowest 0) × (l.found.plus ≡ lowest 1) × (l.found.minus ≡ lowest 2)
