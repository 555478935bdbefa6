-- One filing or withdrawing of a book that is as accepted changes make it: when it is accepted, and what stands after it.
use mathlib.Core.Path.{◌≡◌, refl, sym, ap, subst, ◌∙◌}
use mathlib.Core.Bool.{false}
use mathlib.Core.List.{List, [], Memᴰ}
use mathlib.Core.Logic.{◌⊎◌, inl, inr, ⊎_elim}
use Prim.Native.Nat.{ℕ, suc, ◌≤◌, ◌<◌}
use native.Mathlib.Omega.{arith}
use borrow.Author.Tests.{eqb-false, leb-false}
use lib.ListN.{length, get_or}
use Rattle.table.proofs.Checks.{given_refuses, passed_accepts, given_or_passed, passed_nth, zero_one}
use Rattle.table.specs.Reply.{Reply, refused, answer_says}
use Rattle.table.specs.Checks.{Given, Passed, ◌when◌}
use Rattle.notices.specs.declared.Notice.{Notice}
use Rattle.book.specs.declared.Book.{Book}
use Rattle.notices.specs.Notices.{unfit}
use Rattle.notices.proofs.Fit.{all_pass}
use Rattle.standing.specs.Rising.{insert, without, Filed}
use Rattle.book.specs.Standing.{standing, book_of}
use Rattle.book.specs.declared.Kept.{Kept}
use Rattle.book.specs.Entries.{opened, Opens, Files, Withdraws, file_checks}
use Rattle.book.proofs.Filings.{standing_of}
use Rattle.changes.specs.Runs.{Change, change_checks, changed, answer, after, Accepted}
use Rattle.standing.proofs.Members.{insert_filed, insert_length, insert_member, insert_has, insert_keeps, without_filed, without_length, without_member, without_keeps}

-- the runs of the theorems are runs of the entries: what an entry answers and leaves is what its change answers and leaves
pub opens_leaves : (n : ℕ) (r : Kept) → Opens n r → r.book ≡ opened n
opens_leaves n r p = p.leaves

pub files_change : (b : Book) (x : Notice) (r : Kept) → Files b x r → (answer_says r.answer ≡ answer (Change.file x) b) × (r.book ≡ after (Change.file x) b)
files_change b x r p = (p.says, p.leaves)

pub withdraws_change : (b : Book) (k : ℕ) (r : Kept) → Withdraws b k r → (answer_says r.answer ≡ answer (Change.withdraw k) b) × (r.book ≡ after (Change.withdraw k) b)
withdraws_change b k r p = (p.says, p.leaves)

-- the book is that of its own standing notices, and they are such as accepted filings leave
pub record Good (n : ℕ) (b : Book) : Type 0 where
  pub whole : b ≡ book_of n (standing b)
  pub filed : Filed (unfit n) 0 (standing b)
  pub fits : length (standing b) ≤ 48

pub good_of : (n : ℕ) (l : List Notice) → Filed (unfit n) 0 l → length l ≤ 48 → Good n (book_of n l)
good_of n l f h =
    record {
      whole = ap (book_of n) (sym (standing_of n l));
      filed = rw standing_of f;
      fits = rw standing_of h;
    }

-- a change is accepted, and makes its book, or is refused, and leaves the book as it was
abbrev Taken : Change → Book → Type 0
Taken a b = Accepted a b × Passed (change_checks a b) × (after a b ≡ changed a b)

abbrev Left : Change → Book → Type 0
Left a b = (Accepted a b → ⊥) × (after a b ≡ b)

pub taken : (a : Change) (b : Book) → Passed (change_checks a b) → Taken a b
taken a b p = (passed_accepts refused (Reply.accepted []) (change_checks a b) p, p, passed_accepts (λ k. b) (changed a b) (change_checks a b) p)

left : (a : Change) (b : Book) (k : ℕ) → Given k (change_checks a b) → Left a b
left a b k g = (
  (λ e.
      let r = given_refuses refused (Reply.accepted []) k (change_checks a b) g in
      absurd (zero_one cc)),
  given_refuses (λ j. b) (changed a b) k (change_checks a b) g,
)

taken_or_left : (a : Change) (b : Book) → Taken a b ⊎ Left a b
taken_or_left a b = ⊎_elim (λ g. inr (left a b g.0 g.1)) (λ p. inl (taken a b p)) (given_or_passed (change_checks a b))

-- "a refused change gives the book back unchanged"
pub refused_keeps : (a : Change) (b : Book) → (Accepted a b → ⊥) → after a b ≡ b
refused_keeps a b h = ⊎_elim (λ w. absurd (h w.0)) (λ w. w.1) (taken_or_left a b)

module _ (n : ℕ) (b : Book) (good : Good n b) where
  same_size : b.n ≡ n
  same_size = ap (λ (c : Book). c.n) good.whole

  -- the book that an accepted filing or withdrawing makes
  filed_book : (x : Notice) → changed (Change.file x) b ≡ book_of n (insert x (standing b))
  filed_book x = ap (λ (k : ℕ). book_of k (insert x (standing b))) same_size

  withdrawn_book : (k : ℕ) → changed (Change.withdraw k) b ≡ book_of n (without k (standing b))
  withdrawn_book k = ap (λ (m : ℕ). book_of m (without k (standing b))) same_size

  good_filed : (x : Notice) → Passed (change_checks (Change.file x) b) → Good n (book_of n (insert x (standing b)))
  good_filed x p =
      let s : List Notice = standing b in
      let ok : (k : ℕ) → (get_or (file_checks b x) k (0 when false)).holds ≡ false = λ k. passed_nth (file_checks b x) k p in
      let u : unfit b.n x ≡ false = (all_pass b.n x).1 (ok 2, ok 3, ok 4) in
      let z = eqb-false x.number 0 (ok 1) in
      let r = leb-false 48 (length s) (ok 6) in
      let l = insert_length x s in
      good_of n (insert x s)
      (insert_filed (unfit n) 0 x s good.filed (nonzero x.number z) (subst (λ (k : ℕ). unfit k x ≡ false) same_size u) (ok 5))
      (omega arith)
    where
      nonzero : (k : ℕ) → (k ≡ 0 → ⊥) → 0 < k
      nonzero ℕ.zero e = absurd (e refl)
      nonzero (suc k) e = omega arith

  good_withdrawn : (k : ℕ) → Good n (book_of n (without k (standing b)))
  good_withdrawn k =
      let l = without_length k (standing b) in
      let h = good.fits in
      good_of n (without k (standing b)) (without_filed (unfit n) 0 k (standing b) good.filed) (omega arith)

  pub good_after : (a : Change) → Good n (after a b)
  good_after (Change.file x) =
      ⊎_elim
      (λ w. subst (Good n) (sym (w.2 ∙ filed_book x)) (good_filed x w.1))
      (λ w. subst (Good n) (sym w.1) good)
      (taken_or_left (Change.file x) b)
  good_after (Change.withdraw k) =
      ⊎_elim
      (λ w. subst (Good n) (sym (w.2 ∙ withdrawn_book k)) (good_withdrawn k))
      (λ w. subst (Good n) (sym w.1) good)
      (taken_or_left (Change.withdraw k) b)

  -- what stands after a change that is accepted
  standing_filed : (x : Notice) → Taken (Change.file x) b → standing (after (Change.file x) b) ≡ insert x (standing b)
  standing_filed x w = ap standing (w.2 ∙ filed_book x) ∙ standing_of n (insert x (standing b))

  standing_withdrawn : (k : ℕ) → Taken (Change.withdraw k) b → standing (after (Change.withdraw k) b) ≡ without k (standing b)
  standing_withdrawn k w = ap standing (w.2 ∙ withdrawn_book k) ∙ standing_of n (without k (standing b))

  -- what is filed stands
  pub filed_stands : (x : Notice) → Accepted (Change.file x) b → Memᴰ x (standing (after (Change.file x) b))
  filed_stands x e = ⊎_elim (λ w. rw (standing_filed x w) (insert_has x (standing b))) (λ w. absurd (w.0 e)) (taken_or_left (Change.file x) b)

  -- what stands goes on standing unless it is withdrawn
  pub stands_on : (x : Notice) (a : Change) → Memᴰ x (standing b) → (a ≡ Change.withdraw x.number → Accepted a b → ⊥) → Memᴰ x (standing (after a b))
  stands_on x (Change.file y) m h =
      ⊎_elim (λ w. rw (standing_filed y w) (insert_keeps x y (standing b) m)) (λ w. rw w.1 m) (taken_or_left (Change.file y) b)
  stands_on x (Change.withdraw k) m h =
      ⊎_elim
      (λ w. rw (standing_withdrawn k w) (without_keeps k x (standing b) m (λ e. h (ap Change.withdraw (sym e)) w.0)))
      (λ w. rw w.1 m)
      (taken_or_left (Change.withdraw k) b)

  -- what stands stood before and was not withdrawn, or was filed
  pub stood_or_filed : (x : Notice) (a : Change) → Memᴰ x (standing (after a b))
      → (Memᴰ x (standing b) × (a ≡ Change.withdraw x.number → Accepted a b → ⊥)) ⊎ ((a ≡ Change.file x) × Accepted a b)
  stood_or_filed x (Change.file y) m =
      ⊎_elim
      (λ w.
      ⊎_elim
      (λ e. inr (ap Change.file (sym e), w.0))
      (λ h. inl (h, λ e. absurd (zero_one cc)))
      (insert_member x y (standing b) (rw (standing_filed y w) at m)))
      (λ w. inl (rw w.1 at m, λ e. w.0))
      (taken_or_left (Change.file y) b)
  stood_or_filed x (Change.withdraw k) m =
      ⊎_elim
      (λ w.
      let v = without_member k x (standing b) (rw (standing_withdrawn k w) at m) in
      inl (v.0, λ e q. let z : x.number ≡ k = cc in v.1 z))
      (λ w. inl (rw w.1 at m, λ e. w.0))
      (taken_or_left (Change.withdraw k) b)
