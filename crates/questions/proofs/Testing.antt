-- The link test by the stopper: what it answers past its checks is clear where the stopper is 0, and otherwise the stopper.
use Rattle.std.specs.Prelude.{Ok, Some, None}
use mathlib.Core.Path.{◌≡◌, refl, sym, ap, ◌∙◌}
use mathlib.Core.Bool.{◌||◌}
use Prim.Native.Nat.{ℕ, zero, suc}
use native.Mathlib.Omega.{arith}
use Rattle.table.specs.Checks.{Passed, ◌below◌}
use Rattle.table.proofs.Checks.{not_given_and_passed, passed_nth, neither, zero_one}
use Rattle.fabric.specs.Labels.{outside_sizes}
use Rattle.notices.specs.Notices.{unfit}
use Rattle.standing.specs.Rising.{Filed, misfiled, littered}
use Rattle.standing.proofs.Filings.{filed_if}
use Rattle.book.specs.declared.Book.{Book}
use Rattle.book.specs.Standing.{standing, unused, stopper}
use Rattle.book.proofs.Stoppers.{stopper_none, stopper_exactly}
use Rattle.questions.specs.Entries.{Link, number_or_none, link_checks, Tests}

-- the answer that a stopper makes
abbrev pub answered : ℕ → Link
answered k = Ok (number_or_none k)

-- a number that is not 0 is a number, and none is 0
pub number_is : (k : ℕ) → (k ≡ 0 → ⊥) → number_or_none k ≡ Some k
number_is zero h = absurd (h refl)
number_is (suc k) h = refl

pub number_given : (k m : ℕ) → number_or_none k ≡ Some m → (m ≡ k) × (m ≡ 0 → ⊥)
number_given zero m e = absurd (zero_one cc)
number_given (suc k) m e = let z : suc k ≡ m = cc in (sym z, λ f. absurd (omega arith))

pub none_given : (k : ℕ) → number_or_none k ≡ None → k ≡ 0
none_given zero e = refl
none_given (suc k) e = absurd (zero_one cc)

pub answered_stopped : (k : ℕ) → (k ≡ 0 → ⊥) → answered k ≡ Ok (Some k)
answered_stopped k h = ap Ok (number_is k h)

module _ (b : Book) (i j c : ℕ) where
  filed_by : Passed (link_checks b i j c) → Filed (unfit b.n) 0 (standing b)
  filed_by p =
      let o = neither (outside_sizes b.n || 48 below b.count || misfiled (unfit b.n) 0 (standing b)) (littered (unused b)) (passed_nth (link_checks b i j c) 0 p) in
      filed_if (unfit b.n) 0 (standing b) (neither (outside_sizes b.n || 48 below b.count) (misfiled (unfit b.n) 0 (standing b)) o.0).1

  pub answers_tests : (r : Link) → Passed (link_checks b i j c) → r ≡ answered (stopper b.n (standing b) i j c) → Tests b i j c r
  answers_tests r p e =
      record {
        refuses = λ k g. absurd (not_given_and_passed k (link_checks b i j c) g p);
        stopped = λ q k l. let w = (stopper_exactly b.n i j c k (standing b) (filed_by p)).0 l in let some = w.1 in e ∙ ap answered w.0 ∙ answered_stopped k (λ z. omega arith);
        clear = λ q s. e ∙ ap answered ((stopper_none b.n i j c (standing b) (filed_by p)).1 s);
      }

  pub tests_answers : (r : Link) → Passed (link_checks b i j c) → Tests b i j c r → r ≡ answered (stopper b.n (standing b) i j c)
  tests_answers r p t = go (stopper b.n (standing b) i j c) refl
    where
      go : (k : ℕ) → stopper b.n (standing b) i j c ≡ k → r ≡ answered k
      go zero e = t.clear p ((stopper_none b.n i j c (standing b) (filed_by p)).0 e)
      go (suc k) e = t.stopped p (suc k) ((stopper_exactly b.n i j c (suc k) (standing b) (filed_by p)).1 (e, omega arith))
