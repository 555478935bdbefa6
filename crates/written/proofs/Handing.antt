-- How an entry that makes a book and writes its sheet meets its promise: where the change is refused nothing is written; where it is accepted the
-- book is sound, 16 is passed, and writing the book is all that is left.
use Rattle.std.specs.Prelude.{Ok, Err}
use mathlib.Core.Path.{◌≡◌, refl, sym, ap, subst, ◌∙◌}
use mathlib.Core.List.{List, [], ◌∷◌, ◌++◌}
use mathlib.Core.Logic.{inl, inr}
use Prim.Native.Nat.{ℕ, ◌≤◌, ◌<◌}
use native.Mathlib.Omega.{arith}
use lib.ListN.{length, drop}
use Rattle.table.specs.declared.Refusal.{Refusal}
use Rattle.table.specs.Numbers.{number_of}
use Rattle.table.specs.Reply.{Reply, answer_says, Answer}
use Rattle.table.specs.Checks.{Check, checked, Given, Passed, Passed.none, Passed.passes}
use Rattle.table.proofs.Checks.{given_refuses, passed_accepts}
use Rattle.book.specs.declared.Book.{Book}
use Rattle.book.specs.declared.Kept.{Kept}
use Rattle.book.specs.Standing.{book_of, Sound}
use Rattle.book.specs.Entries.{HandsBack, book_checks, Opens}
use Rattle.book.proofs.Filings.{sound_passes}
use Rattle.book.proofs.Entries.{open_lets_pass, done_exactly, done_hands_back, refused_by}
use Rattle.changes.specs.Runs.{Change, change_checks, changed, after}
use Rattle.changes.proofs.Changes.{Good, good_after}
use Rattle.changes.proofs.Sounds.{whole, good_is_sound}
use Rattle.changes.proofs.Reach.{opened_good}
pub use Rattle.written.proofs.Entries.{length_sheet, at_most_48, at_most_written}
use Rattle.written.proofs.Entries.{room_gives, room_lets_pass}
use Rattle.written.specs.Sheets.{sheet_of, room_checks, WritesSheet, Writes, Written}

-- "On a refusal no byte of lent memory is written": with a number that the checks give nothing is written
pub writes_refused : (checks : List Check) (b : Book) (memory : List ℕ) (why : Refusal) → Given (number_of why) (room_checks checks b memory)
    → WritesSheet checks b memory memory (Err why)
writes_refused checks b memory why g =
    record {
      says = sym (given_refuses _ _ (number_of why) (room_checks checks b memory) g);
      leaves = sym (given_refuses _ _ (number_of why) (room_checks checks b memory) g);
    }

-- "the lent memory is not long enough"
pub writes_short : (checks : List Check) (b : Book) (memory : List ℕ) → Passed checks → length memory < length (sheet_of b)
    → WritesSheet checks b memory memory (Err Refusal.Room)
writes_short checks b memory p short =
    let l = length_sheet b in
    writes_refused checks b memory Refusal.Room ((room_gives checks b memory 13).1 (inr (p, refl, omega arith)))

-- "The answer is the length of the sheet, and the bytes after it are left."
pub writes_fits : (checks : List Check) (b : Book) (before after : List ℕ) (bytes : ℕ) → Passed checks → length (sheet_of b) ≤ length before
    → bytes ≡ length (sheet_of b) → after ≡ sheet_of b ++ drop (length (sheet_of b)) before → WritesSheet checks b before after (Ok bytes)
writes_fits checks b before after bytes p room long is =
    let l = length_sheet b in
    let q : Passed (room_checks checks b before) = (room_lets_pass checks b before).1 (p, omega arith) in
    record {
      says = ap (λ (k : ℕ). Reply.accepted (k ∷ [])) long ∙ sym (passed_accepts _ _ (room_checks checks b before) q);
      leaves = is ∙ sym (passed_accepts _ _ (room_checks checks b before) q);
    }

-- checks that are passed leave those after them to decide
passed_on : {A : Type 0} (refuse : ℕ → A) (accept : A) (cs ds : List Check) → Passed cs → checked (cs ++ ds) refuse accept ≡ checked ds refuse accept
passed_on refuse accept [] ds none = refl
passed_on refuse accept (c ∷ cs) ds (passes h p) = rw h (passed_on refuse accept cs ds p)

-- so it does not matter which checks were passed before the room is judged
pub passed_alike : (checks others : List Check) (b : Book) (before after : List ℕ) (r : Written) → Passed checks → Passed others
    → WritesSheet others b before after r → WritesSheet checks b before after r
passed_alike checks others b before after r p q w =
    record {
      says = w.says ∙ passed_on _ _ others _ q ∙ sym (passed_on _ _ checks _ p);
      leaves = w.leaves ∙ passed_on _ _ others _ q ∙ sym (passed_on _ _ checks _ p);
    }

-- a change for a host: the entry makes the book and then writes it
module _ (checks : List Check) (given made : Book) (k : Kept) (hands : HandsBack checks given made k) where
  pub handed_refused : (why : Refusal) (memory : List ℕ) → k.answer ≡ Err why → WritesSheet checks made memory memory (Err why)
  handed_refused why memory e =
      writes_refused checks made memory why ((room_gives checks made memory (number_of why)).1 (inl (refused_by checks given made k hands why e)))

  pub handed_writes : (before after : List ℕ) (r : Written) → k.answer ≡ Ok tt → Sound k.book → Writes k.book before after r
      → WritesSheet checks made before after r
  handed_writes before after r e sound w =
      let p : Passed checks = (done_exactly checks given made k hands).0 (ap answer_says e) in
      let same : k.book ≡ made = done_hands_back checks given made k hands e in
      subst (λ (c : Book). WritesSheet checks c before after r) same
      (passed_alike checks (book_checks k.book) k.book before after r p (passes (sound_passes k.book sound) none) w)

-- what is made is sound
pub opened_sound : (n : ℕ) (r : Kept) → Opens n r → r.answer ≡ Ok tt → Sound r.book
opened_sound n r o e =
    let w = (open_lets_pass n).0 ((done_exactly _ _ _ r o).0 (ap answer_says e)) in
    subst Sound (sym (done_hands_back _ _ _ r o e)) (good_is_sound n (book_of n []) w.0 w.1 (opened_good n))

good_if_sound : (b : Book) → Sound b → length b.notices ≡ 48 → Good b.n b
good_if_sound b sound places = record { whole = sym (whole b sound places); filed = sound.filed; fits = at_most_48 b sound }

pub changed_sound : (b : Book) (a : Change) (r : Kept) → Sound b → length b.notices ≡ 48 → HandsBack (change_checks a b) b (changed a b) r → Sound r.book
changed_sound b a r sound places f =
    subst Sound (sym f.leaves) (good_is_sound b.n (after a b) sound.some sound.few (good_after b.n b (good_if_sound b sound places) a))
