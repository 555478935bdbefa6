-- What the link test answers by the parts of the test behind 16, and by the lowest number found.
use Rattle.std.specs.Prelude.{Option, Ok, Err}
use mathlib.Core.Path.{◌≡◌, refl, ap, ◌∙◌}
use mathlib.Core.Bool.{Bool, true, false, ◌||◌}
use Prim.Native.Nat.{ℕ, ◌-◌, ◌≤◌, ◌<◌}
use native.Mathlib.Omega.{arith}
use borrow.Author.Tests.{lt-ltb, le-ltb}
use lib.ListN.{length, take, drop, length-drop}
use lib.Seq.{take_all}
use Rattle.table.specs.declared.Refusal.{Refusal}
use Rattle.table.specs.Numbers.{number_of}
use Rattle.table.specs.Checks.{◌below◌, Given, Given.here, Passed}
use Rattle.table.proofs.Checks.{one_of, neither}
use Rattle.fabric.specs.Labels.{size, outside_sizes}
use Rattle.notices.specs.Notices.{names, unfit}
use Rattle.standing.specs.Rising.{Filed, misfiled, littered}
use Rattle.standing.proofs.Filings.{filed_if}
use Rattle.book.specs.declared.Book.{Book}
use Rattle.book.specs.Standing.{standing, unused, unsound}
use Rattle.questions.specs.Entries.{link_checks, Tests}
use Rattle.questions.proofs.Answers.{link_refused}
use Rattle.questions.proofs.Entries.{link_lets_pass}
use Rattle.questions.proofs.Testing.{answers_tests}
use Rattle.asked.specs.Lower.{first_number}
use Rattle.asked.proofs.Lower.{first_is_lowest}
use Rattle.asked.proofs.Judging.{or_holds}

-- the places after the standing notices, as a part of the array
pub rest_unused : (b : Book) → length b.notices ≡ 48 → take (48 - b.count) (drop b.count b.notices) ≡ unused b
rest_unused b full = take_all (48 - b.count) (drop b.count b.notices) (let size = length-drop b.count b.notices in omega arith)

module _ (b : Book) (i j c : ℕ) where
  -- the notices of a sound book are filed
  pub filed_in : unsound b ≡ false → Filed (unfit b.n) 0 (standing b)
  filed_in e =
      let o = neither (outside_sizes b.n || 48 below b.count || misfiled (unfit b.n) 0 (standing b)) (littered (unused b)) e in
      filed_if (unfit b.n) 0 (standing b) (neither (outside_sizes b.n || 48 below b.count) (misfiled (unfit b.n) 0 (standing b)) o.0).1

  damaged : unsound b ≡ true → Tests b i j c (Err Refusal.Book)
  damaged e = link_refused b i j c Refusal.Book (here e refl)

  -- a part of the test behind 16 holds
  pub refused_by_size : outside_sizes b.n ≡ true → Tests b i j c (Err Refusal.Book)
  refused_by_size e = damaged (rw e)

  pub refused_by_count : 48 < b.count → Tests b i j c (Err Refusal.Book)
  refused_by_count h = damaged (one_of _ (littered (unused b)) (one_of _ (misfiled (unfit b.n) 0 (standing b)) (or_holds (outside_sizes b.n) (lt-ltb 48 b.count h))))

  pub refused_by_order : misfiled (unfit b.n) 0 (standing b) ≡ true → Tests b i j c (Err Refusal.Book)
  refused_by_order e = damaged (one_of _ (littered (unused b)) (or_holds (outside_sizes b.n || 48 below b.count) e))

  pub refused_by_litter : littered (unused b) ≡ true → Tests b i j c (Err Refusal.Book)
  refused_by_litter e = damaged (or_holds (outside_sizes b.n || 48 below b.count || misfiled (unfit b.n) 0 (standing b)) e)

  -- what is passed where none of its parts holds, and there is such a link
  passed_by : 1 ≤ b.n → b.n ≤ 12 → b.count ≤ 48 → misfiled (unfit b.n) 0 (standing b) ≡ false → littered (unused b) ≡ false
      → i < b.n → j < size b.n → c < 3 → Passed (link_checks b i j c)
  passed_by some few fits order rest stage switch code =
      (link_lets_pass b i j c).1 (rw (le-ltb b.n 1 some, le-ltb 12 b.n few, le-ltb 48 b.count fits, order) rest, stage, switch, code)

  -- the notices judged one by one on the way, and the places that are not in use: what was found is the answer
  pub passed_tests : (found : Option ℕ) → 1 ≤ b.n → b.n ≤ 12 → b.count ≤ 48 → misfiled (unfit b.n) 0 (standing b) ≡ false → littered (unused b) ≡ false
      → i < b.n → j < size b.n → c < 3 → found ≡ first_number (λ x. names b.n x i j c) (standing b) → Tests b i j c (Ok found)
  passed_tests found some few fits order rest stage switch code e =
      answers_tests b i j c (Ok found) (passed_by some few fits order rest stage switch code)
      (ap Ok (e ∙ first_is_lowest (λ x. names b.n x i j c) (unfit b.n) 0 (standing b) (filed_if (unfit b.n) 0 (standing b) order)))

  -- a refusal that comes after 16, given where 16 is not
  pub refused_after : (why given : Refusal) → (unsound b ≡ true → given ≡ Refusal.Book) × (unsound b ≡ false → given ≡ why)
      → (unsound b ≡ false → Given (number_of why) (link_checks b i j c)) → Tests b i j c (Err given)
  refused_after why given answers holds = go (unsound b) refl
    where
      go : (judged : Bool) → unsound b ≡ judged → Tests b i j c (Err given)
      go true e = rw (answers.0 e) (damaged e)
      go false e = rw (answers.1 e) (link_refused b i j c why (holds e))
