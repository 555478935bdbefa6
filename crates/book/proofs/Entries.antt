-- What the entries' definitions say: the order of each entry's checks and what passes them, what the answers say, and which book
-- is handed back.
use Rattle.std.specs.Prelude.{Ok, Err}
use mathlib.Core.Path.{◌≡◌, refl, sym, ap, ◌∙◌}
use mathlib.Core.Bool.{Bool, true, false, not, true≢false}
use mathlib.Core.List.{List, [], ◌∷◌, Memᴰ}
use mathlib.Core.Logic.{◌⊎◌, ⊎_elim, ◌↔◌}
use Prim.Native.Nat.{ℕ, zero, suc, ◌≤◌, ◌<◌}
use native.Mathlib.Omega.{arith}
use borrow.Author.Tests.{ltb-false, leb-false, eqb-false, not-false, le-ltb, le-leb, lt-leb, ne_eqb}
use lib.ListN.{length, get_or}
use Rattle.table.specs.declared.Refusal.{Refusal}
use Rattle.table.specs.Numbers.{number_of}
use Rattle.table.specs.Reply.{Reply, refused, answer_says}
use Rattle.table.specs.Checks.{Check, Given, Given.here, Given.later, Passed, Passed.none, Passed.passes, ◌when◌, ◌below◌, ◌not_below◌, numbers}
use Rattle.table.proofs.Checks.{given_refuses, passed_accepts, accepted_passed, refused_given, passed_nth, neither, neither_of}
use Rattle.fabric.specs.Labels.{outside_sizes}
use Rattle.notices.specs.declared.Notice.{Notice}
use Rattle.notices.specs.Notices.{outside_fabric, bad_field, too_wide, unfit}
use Rattle.notices.proofs.Fit.{all_pass}
use Rattle.book.specs.declared.Book.{Book}
use Rattle.book.specs.declared.Kept.{Kept}
use Rattle.standing.specs.Rising.{stands, insert, without}
use Rattle.book.specs.Standing.{standing, unsound, Sound, Stopped, stops_of}
use Rattle.book.specs.Entries.{HandsBack, open_checks, opened, Opens, book_checks, file_checks, filed, Files, withdraw_checks, withdrawn, Withdraws}
use Rattle.standing.proofs.Members.{stands_member, member_stands, insert_has, insert_keeps, insert_member, without_keeps, without_member}
use Rattle.book.proofs.Filings.{standing_of, sound_if}
use Rattle.book.proofs.Stoppers.{stopper_none}

-- a check that is passed, by its place
abbrev PassedAt : List Check → ℕ → Type 0
PassedAt cs k = (get_or cs k (0 when false)).holds ≡ false

above_none : (k : ℕ) → (k ≡ 0 → ⊥) → 1 ≤ k
above_none zero h = absurd (h refl)
above_none (suc k) h = omega arith

-- a number stands where a notice has it
abbrev pub HasNumber : ℕ → List Notice → Type 0
HasNumber k l = (y : Notice) × Memᴰ y l × (y.number ≡ k)

no_number : (k : ℕ) (l : List Notice) → stands k l ≡ false → HasNumber k l → ⊥
no_number k l e w = true≢false (sym (ap (λ (m : ℕ). stands m l) (sym w.2) ∙ member_stands w.0 l w.1) ∙ e)

number_free : (k : ℕ) (l : List Notice) → (HasNumber k l → ⊥) → stands k l ≡ false
number_free k l h = go (stands k l) refl
  where
    go : (t : Bool) → stands k l ≡ t → stands k l ≡ false
    go true e = absurd (h (stands_member k l e))
    go false e = e

number_stands : (k : ℕ) (l : List Notice) → HasNumber k l → stands k l ≡ true
number_stands k l w = ap (λ (m : ℕ). stands m l) (sym w.2) ∙ member_stands w.0 l w.1

-- "Open (n): 1"
pub open_order : (n : ℕ) → numbers (open_checks n) ≡ 1 ∷ []
open_order n = refl

-- 1: "n is 0 or above 12"
pub open_lets_pass : (n : ℕ) → Passed (open_checks n) ↔ ((1 ≤ n) × (n ≤ 12))
open_lets_pass n = (
  (λ p. let w = neither (n below 1) (12 below n) (passed_nth (open_checks n) 0 p) in (ltb-false n 1 w.0, ltb-false 12 n w.1)),
  (λ w. passes (neither_of _ _ (le-ltb n 1 w.0) (le-ltb 12 n w.1)) none),
)

module _ (b : Book) (x : Notice) where
  -- "File (book, notice): 16, 3, 4, 5, 6, 7, 8."
  pub file_order : numbers (file_checks b x) ≡ 16 ∷ 3 ∷ 4 ∷ 5 ∷ 6 ∷ 7 ∷ 8 ∷ []
  file_order = refl

  -- 3: "the number of the notice is 0"; 4, 5 and 6 as a notice's target is judged; 7: "the number stands already"; 8: "48 notices stand"
  pub file_lets_pass : Passed (file_checks b x)
      ↔ ((unsound b ≡ false) × (1 ≤ x.number) × (outside_fabric b.n x ≡ false) × (bad_field b.n x ≡ false) × (too_wide x ≡ false)
      × (HasNumber x.number (standing b) → ⊥) × (length (standing b) < 48))
  file_lets_pass = (
    (λ p.
        let ok : (k : ℕ) → PassedAt (file_checks b x) k = λ k. passed_nth (file_checks b x) k p in (
          ok 0,
          above_none x.number (eqb-false x.number 0 (ok 1)),
          ok 2,
          ok 3,
          ok 4,
          no_number x.number (standing b) (ok 5),
          leb-false 48 (length (standing b)) (ok 6),
        )),
    (λ w.
        let some = w.1 in
        passes w.0
        (passes (ne_eqb x.number 0 (λ e. omega arith))
        (passes w.2
        (passes w.3 (passes w.4 (passes (number_free x.number (standing b) w.5) (passes (lt-leb 48 (length (standing b)) w.6) none))))))),
  )

  -- past 16, 3, 4, 5 and 6: 7 is given exactly when the number stands, whether 48 stand or fewer; and then 8 exactly when 48 stand
  module _ (sound : unsound b ≡ false) (some : 1 ≤ x.number) (fit : unfit b.n x ≡ false) where
    past_six : {k : ℕ} → Given k ((7 when stands x.number (standing b)) ∷ (8 when length (standing b) not_below 48) ∷ []) → Given k (file_checks b x)
    past_six g =
        let u = (all_pass b.n x).0 fit in
        later sound (later (ne_eqb x.number 0 (λ e. omega arith)) (later u.0 (later u.1 (later u.2 g))))

    pub seven_though_full : HasNumber x.number (standing b) → Given 7 (file_checks b x)
    seven_though_full w = past_six (here (number_stands x.number (standing b) w) refl)

    pub eight_when_full : (HasNumber x.number (standing b) → ⊥) → 48 ≤ length (standing b) → Given 8 (file_checks b x)
    eight_when_full new full = past_six (later (number_free x.number (standing b) new) (here (le-leb 48 (length (standing b)) full) refl))

-- 16 is what every entry over a book judges first
pub book_order : (b : Book) → numbers (book_checks b) ≡ 16 ∷ []
book_order b = refl

pub book_lets_pass : (b : Book) → Passed (book_checks b) ↔ (unsound b ≡ false)
book_lets_pass b = ((λ p. passed_nth (book_checks b) 0 p), (λ e. passes e none))

module _ (b : Book) (k : ℕ) where
  -- "Withdraw (book, number): 16, 3, 9."
  pub withdraw_order : numbers (withdraw_checks b k) ≡ 16 ∷ 3 ∷ 9 ∷ []
  withdraw_order = refl

  -- 9: "no notice of this number stands"
  pub withdraw_lets_pass : Passed (withdraw_checks b k) ↔ ((unsound b ≡ false) × (1 ≤ k) × HasNumber k (standing b))
  withdraw_lets_pass = (
    (λ p.
        let ok : (j : ℕ) → PassedAt (withdraw_checks b k) j = λ j. passed_nth (withdraw_checks b k) j p in
        (ok 0, above_none k (eqb-false k 0 (ok 1)), stands_member k (standing b) (not-false (stands k (standing b)) (ok 2)))),
    (λ w. let some = w.1 in passes w.0 (passes (ne_eqb k 0 (λ e. omega arith)) (passes (ap not (number_stands k (standing b) w.2)) none))),
  )

-- "Both changes give the book back beside the answer."
module _ (checks : List Check) (given made : Book) (r : Kept) (kept : HandsBack checks given made r) where
  -- accepted exactly when every check is passed, and then with the book that the change makes
  pub done_exactly : (answer_says r.answer ≡ Reply.accepted []) ↔ Passed checks
  done_exactly = ((λ e. accepted_passed checks [] [] (sym e ∙ kept.says)), (λ p. kept.says ∙ passed_accepts refused (Reply.accepted []) checks p))

  pub done_hands_back : r.answer ≡ Ok tt → r.book ≡ made
  done_hands_back e = kept.leaves ∙ passed_accepts (λ k. given) made checks (done_exactly.0 (ap answer_says e))

  -- refused with a number that the checks give, and then with the book that is known beforehand
  pub refused_by : (why : Refusal) → r.answer ≡ Err why → Given (number_of why) checks
  refused_by why e = refused_given checks [] (number_of why) (sym (ap answer_says e) ∙ kept.says)

  pub refused_hands_back : (why : Refusal) → r.answer ≡ Err why → r.book ≡ given
  refused_hands_back why e = kept.leaves ∙ given_refuses (λ k. given) made (number_of why) checks (refused_by why e)

-- "a refused change gives the book back unchanged"
pub refused_filing_keeps : (b : Book) (x : Notice) (r : Kept) (why : Refusal) → Files b x r → r.answer ≡ Err why → r.book ≡ b
refused_filing_keeps b x r why p e = refused_hands_back _ _ _ r p why e

pub refused_withdrawing_keeps : (b : Book) (k : ℕ) (r : Kept) (why : Refusal) → Withdraws b k r → r.answer ≡ Err why → r.book ≡ b
refused_withdrawing_keeps b k r why p e = refused_hands_back _ _ _ r p why e

-- "hands back a book of size 0 without notices"
pub refused_opening_is_empty : (n : ℕ) (r : Kept) (why : Refusal) → Opens n r → r.answer ≡ Err why → (r.book.n ≡ 0) × (standing r.book ≡ [])
refused_opening_is_empty n r why p e = let k = refused_hands_back _ _ _ r p why e in (ap (λ (b : Book). b.n) k, ap standing k)

-- "to which every entry over a book says 16"
pub refused_opening_sixteen : (n : ℕ) (x : Notice) (k : ℕ) → outside_sizes n ≡ true → Given 16 (file_checks (opened n) x) × Given 16 (withdraw_checks (opened n) k)
refused_opening_sixteen n x k size =
    let u : unsound (opened n) ≡ true = rw size in
    (here u refl, here u refl)

-- "Otherwise it hands back an empty book of size n"
pub opening_is_empty : (n : ℕ) (r : Kept) → Opens n r → r.answer ≡ Ok tt → (r.book.n ≡ n) × (standing r.book ≡ [])
opening_is_empty n r p e = let k = done_hands_back _ _ _ r p e in (ap (λ (b : Book). b.n) k, ap standing k)

-- which links a book stops: those that a standing notice names
pub stops_exactly : (b : Book) → length b.notices ≡ 48 → (i j c : ℕ) → unsound b ≡ false → (stops_of b i j c ≡ 0) ↔ (Stopped b.n (standing b) i j c → ⊥)
stops_exactly b places i j c sound = stopper_none b.n i j c (standing b) (sound_if b places sound).filed

-- what stands in the book that an accepted filing makes: that notice, what stood, and no other
pub filed_standing : (b : Book) (x y : Notice) → Memᴰ y (standing (filed b x)) ↔ ((y ≡ x) ⊎ Memᴰ y (standing b))
filed_standing b x y =
    let e = standing_of b.n (insert x (standing b)) in (
      (λ m. insert_member y x (standing b) (rw e at m)),
      ⊎_elim (λ s. rw (e, s) (insert_has x (standing b))) (λ m. rw e (insert_keeps y x (standing b) m)),
    )

-- and in the one that an accepted withdrawing makes: what stood, but for the notice of that number
pub withdrawn_standing : (b : Book) (k : ℕ) (y : Notice) → Sound b → Memᴰ y (standing (withdrawn b k)) ↔ (Memᴰ y (standing b) × (y.number ≡ k → ⊥))
withdrawn_standing b k y sound =
    let e = standing_of b.n (without k (standing b)) in (
      (λ m. without_member k y (standing b) (rw e at m)),
      (λ w. rw e (without_keeps k y (standing b) w.0 w.1)),
    )
