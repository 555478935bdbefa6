-- Number 16 by the letter: the test behind it is failed by exactly the books that no accepted opening, filing and withdrawing
-- produce.
use mathlib.Core.Path.{◌≡◌, refl, sym, ap, subst, ◌∙◌}
use mathlib.Core.Bool.{Bool, true, false}
use mathlib.Core.List.Memᴰ
use mathlib.Core.List.{List, [], ◌∷◌, map, Memᴰ}
use mathlib.Core.Logic.{◌⊎◌, inl, inr, ⊎_elim}
use Prim.Native.Nat.{ℕ, ◌≤◌}
use native.Mathlib.Omega.{arith}
use borrow.Author.Tests.{ne_eqb, lt-leb}
use lib.Dec.{leb}
use lib.ListN.{length}
use Rattle.table.proofs.Checks.{zero_one}
use Rattle.table.specs.Reply.{Reply, refused}
use Rattle.table.specs.Checks.{Passed, Passed.none, Passed.passes, ◌not_below◌, checked}
use Rattle.fabric.specs.Labels.{outside_sizes}
use Rattle.notices.specs.declared.Notice.{Notice}
use Rattle.book.specs.declared.Book.{Book}
use Rattle.notices.specs.Notices.{unfit}
use Rattle.notices.proofs.Fit.{all_pass}
use Rattle.standing.specs.Rising.{stands, insert, Filed, Distinct}
use Rattle.book.specs.Standing.{standing, book_of, unsound}
use Rattle.book.specs.Entries.{open_checks, opened, file_checks}
use Rattle.changes.specs.Runs.{Change, after, Accepted, run, AllAccepted, Reachable}
use Rattle.book.proofs.Filings.{sound_if, sound_of, size_passes, standing_of, length_standing}
use Rattle.changes.proofs.Sounds.{whole}
use Rattle.standing.proofs.Members.{Within, all_above, none_bad, one_number, filed_distinct, stands_member, insert_filed, insert_length, insert_member, insert_has, insert_keeps, within_length, same_notices}
use Rattle.changes.proofs.Changes.{Good, good_of, good_after, taken}

pub good_run : (n : ℕ) (changes : List Change) (b : Book) → Good n b → Good n (run changes b)
unfolding run
good_run n [] b g = g
good_run n (a ∷ rest) b g = good_run n rest (after a b) (good_after n b g a)

pub good_sound : (n : ℕ) (b : Book) → outside_sizes n ≡ false → Good n b → unsound b ≡ false
good_sound n b size g = ap unsound g.whole ∙ sound_of n (standing b) size g.filed g.fits

pub opened_good : (n : ℕ) → Good n (book_of n [])
unfolding Filed
opened_good n = good_of n [] tt (omega arith)

pub opened_is : (n : ℕ) → outside_sizes n ≡ false → opened n ≡ book_of n []
opened_is n size = rw size

-- "a book of size 0 without notices, to which every entry over a book says 16"
pub refused_opening_unsound : (n : ℕ) → outside_sizes n ≡ true → unsound (opened n) ≡ true
refused_opening_unsound n size = rw size

opens_size : (n : ℕ) (b : Bool) → outside_sizes n ≡ b → checked (open_checks n) refused (Reply.accepted []) ≡ Reply.accepted [] → outside_sizes n ≡ false
opens_size n true e h =
    let r : refused 1 ≡ Reply.accepted [] = rw e at h in
    absurd (zero_one cc)
opens_size n false e h = e

-- "a book to which no accepted opening, filings and withdrawals lead": one that they produce passes
pub reachable_sound : (b : Book) → Reachable b → unsound b ≡ false
reachable_sound b r =
    let size = opens_size r.n (outside_sizes r.n) refl r.opens in
    let g : Good r.n (opened r.n) = rw (opened_is r.n size) (opened_good r.n) in
    good_sound r.n b size (subst (Good r.n) r.makes (good_run r.n r.changes (opened r.n) g))

-- what filings one after the other make of a book in which the notices of t stand
record Filings (n : ℕ) (l t : List Notice) : Type 0 where
  stand : List Notice
  makes : run (map Change.file l) (book_of n t) ≡ book_of n stand
  accepts : AllAccepted (map Change.file l) (book_of n t)
  filed : Filed (unfit n) 0 stand
  only : (x : Notice) → Memᴰ x stand → Memᴰ x l ⊎ Memᴰ x t
  these : Within l stand
  those : Within t stand

-- notices that can stand together are accepted in any order
module _ (n : ℕ) (size : outside_sizes n ≡ false) (s : List Notice) (fs : Filed (unfit n) 0 s) (few : length s ≤ 48) where
  next_passes : (x : Notice) (t : List Notice) → Filed (unfit n) 0 t → Within t s → Memᴰ x s → (Memᴰ x t → ⊥) → stands x.number t ≡ false
  next_passes x t ft within m new = go (stands x.number t) refl
    where
      go : (b : Bool) → stands x.number t ≡ b → stands x.number t ≡ false
      go true e =
          let w = stands_member x.number t e in
          absurd (new (Memᴰ.cast (one_number (unfit n) 0 s x w.0 fs m (within w.0 w.1) (sym w.2)) w.1))
      go false e = e

  insert_within : (x : Notice) (t : List Notice) → Within t s → Memᴰ x s → Within (insert x t) s
  insert_within x t within m y h = ⊎_elim (λ e. Memᴰ.cast e m) (λ w. within y w) (insert_member y x t h)

  can_file : (x : Notice) (t : List Notice) → Filed (unfit n) 0 t → Within t s → Memᴰ x s → (Memᴰ x t → ⊥) → Passed (file_checks (book_of n t) x)
  can_file x t ft within m new =
      let above = all_above (unfit n) 0 s x fs m in
      let fit = none_bad (unfit n) 0 s x fs m in
      let u = (all_pass n x).0 fit in
      let free = next_passes x t ft within m new in
      let more = insert_filed (unfit n) 0 x t ft above fit free in
      let l = insert_length x t in
      let h = within_length (unfit n) s (insert x t) 0 0 fs more (insert_within x t within m) in
      let room : (length (standing (book_of n t)) not_below 48) ≡ false =
      ap (λ (k : List Notice). leb 48 (length k)) (standing_of n t) ∙ lt-leb 48 (length t) (omega arith) in
      passes (sound_of n t size ft (omega arith))
      (passes (ne_eqb x.number 0 (λ e. omega arith))
      (passes u.0 (passes u.1 (passes u.2 (passes (ap (stands x.number) (standing_of n t) ∙ free) (passes room none))))))

  files_all : (l t : List Notice) → Distinct l → Within l s → Filed (unfit n) 0 t → Within t s → ((x : Notice) → Memᴰ x l → Memᴰ x t → ⊥) → Filings n l t
  unfolding run AllAccepted Distinct
  files_all [] t d ls ft ts apart =
      record {
        stand = t;
        makes = refl;
        accepts = tt;
        filed = ft;
        only = λ x h. inr h;
        these = λ x h. absurd (Memᴰ.not-nil h);
        those = λ x h. h;
      }
  files_all (x ∷ xs) t d ls ft ts apart =
      let m = ls x (Memᴰ.head refl) in
      let new = apart x (Memᴰ.head refl) in
      let w = taken (Change.file x) (book_of n t) (can_file x t ft ts m new) in
      let e : after (Change.file x) (book_of n t) ≡ book_of n (insert x t) = w.2 ∙ ap (λ (k : List Notice). book_of n (insert x k)) (standing_of n t) in
      let more = insert_filed (unfit n) 0 x t ft (all_above (unfit n) 0 s x fs m) (none_bad (unfit n) 0 s x fs m) (next_passes x t ft ts m new) in
      step w.0 e
      (files_all xs (insert x t) d.1 (λ y h. ls y (Memᴰ.tail h)) more (insert_within x t ts m)
      (λ y h g. ⊎_elim (λ q. d.0 (Memᴰ.cast (sym q) h)) (λ v. apart y (Memᴰ.tail h) v) (insert_member y x t g)))
    where
      step : Accepted (Change.file x) (book_of n t) → after (Change.file x) (book_of n t) ≡ book_of n (insert x t) → Filings n xs (insert x t) → Filings n (x ∷ xs) t
      step acc e r =
          record {
            stand = r.stand;
            makes = ap (run (map Change.file xs)) e ∙ r.makes;
            accepts = (acc, subst (AllAccepted (map Change.file xs)) (sym e) r.accepts);
            filed = r.filed;
            only = λ y h. ⊎_elim (λ v. inl (Memᴰ.tail v)) (λ v. ⊎_elim (λ q. inl (Memᴰ.head q)) (λ u. inr u) (insert_member y x t v)) (r.only y h);
            these = λ y h. ⊎_elim (λ q. r.those y (Memᴰ.cast q (insert_has x t))) (λ v. r.these y v) (Memᴰ.cases_cons h);
            those = λ y h. r.those y (insert_keeps y x t h);
          }

  -- the notices of s, filed in any order into an empty book, make the book of s
  pub any_order : (l : List Notice) → Distinct l → Within l s → Within s l
      → (run (map Change.file l) (book_of n []) ≡ book_of n s) × AllAccepted (map Change.file l) (book_of n [])
  unfolding Filed
  any_order l d ls sl =
      let r = files_all l [] d ls tt (λ x h. absurd (Memᴰ.not-nil h)) (λ x h g. Memᴰ.not-nil g) in
      let e : r.stand ≡ s =
      same_notices (unfit n) s r.stand 0 0 fs r.filed
      (λ x h. ⊎_elim (λ v. ls x v) (λ v. absurd (Memᴰ.not-nil v)) (r.only x h))
      (λ x h. r.these x (sl x h)) in
      (r.makes ∙ ap (book_of n) e, r.accepts)

-- and a book that passes is produced: by opening its size and filing its own notices
pub sound_reachable : (b : Book) → length b.notices ≡ 48 → unsound b ≡ false → Reachable b
sound_reachable b full e =
    let u = sound_if b full e in
    let size : outside_sizes b.n ≡ false = size_passes b.n u.some u.few in
    let l = length_standing b u full in
    let s : List Notice = standing b in
    let f = u.fits in
    let w = any_order b.n size s u.filed (omega arith) s (filed_distinct (unfit b.n) 0 s u.filed) (λ x h. h) (λ x h. h) in
    let o = opened_is b.n size in
    record {
      n = b.n;
      opens = rw size;
      changes = map Change.file s;
      accepts = rw o w.1;
      makes = ap (run (map Change.file s)) o ∙ w.0 ∙ whole b u full;
    }
