-- Whoever knows which check was given, or that all are passed, has the link test's whole promise.
use Rattle.std.specs.Prelude.{Ok, Err, Some, None}
use mathlib.Core.Path.{◌≡◌, sym, ap, ◌∙◌}
use Prim.Native.Nat.{ℕ}
use Rattle.table.specs.declared.Refusal.{Refusal}
use Rattle.table.specs.Numbers.{number_of}
use Rattle.table.specs.Reply.{refused}
use Rattle.table.specs.Checks.{Given, Passed}
use Rattle.table.proofs.Checks.{given_once, not_given_and_passed}
use Rattle.book.specs.declared.Book.{Book}
use Rattle.book.specs.Standing.{standing, stopper}
use Rattle.questions.specs.Entries.{Link, link_checks, Tests}
use Rattle.questions.proofs.Testing.{answered, answered_stopped, answers_tests}

module _ (b : Book) (i j c : ℕ) where
  pub link_refused : (why : Refusal) → Given (number_of why) (link_checks b i j c) → Tests b i j c (Err why)
  link_refused why g =
      record {
        refuses = λ k h. ap refused (given_once (number_of why) k (link_checks b i j c) g h);
        stopped = λ p. absurd (not_given_and_passed (number_of why) (link_checks b i j c) g p);
        clear = λ p. absurd (not_given_and_passed (number_of why) (link_checks b i j c) g p);
      }

  pub link_clear : {number : ℕ} → number ≡ stopper b.n (standing b) i j c → number ≡ 0 → Passed (link_checks b i j c) → Tests b i j c (Ok None)
  link_clear e z p = answers_tests b i j c (Ok None) p (ap answered (sym z ∙ e))

  pub link_stopped : {number : ℕ} → number ≡ stopper b.n (standing b) i j c → (number ≡ 0 → ⊥) → Passed (link_checks b i j c) → Tests b i j c (Ok (Some number))
  link_stopped {number} e some p = answers_tests b i j c (Ok (Some number)) p (sym (answered_stopped number some) ∙ ap answered e)
