-- An entry meets its promise where it refuses by a number that its checks give, and where it passes them and its answer is
-- what docs/RULES.md says of paths.
use Rattle.std.specs.Prelude.{Err}
use Rattle.walks.specs.declared.NotClear.{NotClear}
use mathlib.Core.Path.{ap}
use Prim.Native.Nat.{ℕ}
use Rattle.table.specs.declared.Refusal.{Refusal}
use Rattle.table.specs.Numbers.{number_of}
use Rattle.table.specs.Reply.{refused}
use Rattle.table.specs.Checks.{Given, Passed}
use Rattle.table.proofs.Checks.{given_once, not_given_and_passed}
use Rattle.book.specs.declared.Book.{Book}
use Rattle.book.specs.Standing.{stops_of}
use Rattle.walks.specs.Entries.{walk_checks, Walked, Walks, Ended}

module _ (b : Book) (s tag : ℕ) where
  pub walk_refuses : (r : Refusal) → Given (number_of r) (walk_checks b s tag) → Walks b s tag (Err (NotClear.Refused r))
  walk_refuses r g =
      record {
        refuses = λ k h. ap refused (given_once (number_of r) k (walk_checks b s tag) g h);
        walks = λ p. not_given_and_passed (number_of r) (walk_checks b s tag) g p;
      }

  pub walk_passes : (a : Ended) → Passed (walk_checks b s tag) → Walked b.n (stops_of b) s tag a → Walks b s tag a
  walk_passes a p w = record { refuses = λ k g. absurd (not_given_and_passed k (walk_checks b s tag) g p); walks = λ q. w }
