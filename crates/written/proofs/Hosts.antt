-- Open, file and withdraw for a host, beside the entries that hand the book back: the host is answered as they answer, and where they accept it
-- has the sheet of the book that they hand back, or 13.
use Rattle.std.specs.Prelude.{Ok, Err}
use mathlib.Core.Path.{◌≡◌, refl, sym, ap, subst}
use mathlib.Core.Logic.{◌↔◌}
use mathlib.Core.List.{List, []}
use Prim.Native.Nat.{ℕ}
use lib.ListN.{length}
use Rattle.table.specs.declared.Refusal.{Refusal}
use Rattle.table.specs.Reply.{answer_says, Answer}
use Rattle.table.specs.Checks.{Check, Passed, Passed.none, Passed.passes}
use Rattle.table.proofs.Checks.{passed_nth}
use Rattle.notices.specs.declared.Notice.{Notice}
use Rattle.book.specs.declared.Book.{Book}
use Rattle.book.specs.declared.Kept.{Kept}
use Rattle.book.specs.Standing.{book_of, Sound}
use Rattle.book.specs.Entries.{HandsBack, open_checks, book_checks, file_checks, withdraw_checks, Opens, Files, Withdraws}
use Rattle.book.proofs.Filings.{sound_if, sound_passes}
use Rattle.book.proofs.Entries.{done_exactly, done_hands_back}
use Rattle.changes.specs.Runs.{Change, change_checks, changed}
use Rattle.written.specs.Sheets.{WritesSheet, Writes, Written}
use Rattle.written.specs.Changes.{OpensSheet, ChangesSheet, HostHas}
use Rattle.written.proofs.Handing.{passed_alike, handed_refused, handed_writes, opened_sound, changed_sound}
use Rattle.written.proofs.Once.{writes_once}

-- a book of which a change was accepted is sound
sound_from : (b : Book) (a : Change) → length b.notices ≡ 48 → Passed (change_checks a b) → Sound b
sound_from b (Change.file x) places p = sound_if b places (passed_nth (file_checks b x) 0 p)
sound_from b (Change.withdraw j) places p = sound_if b places (passed_nth (withdraw_checks b j) 0 p)

module _ (before after : List ℕ) (r : Written) where
  host_has : (checks : List Check) (given made : Book) (k : Kept) → HandsBack checks given made k → (k.answer ≡ Ok tt → Sound k.book)
      → WritesSheet checks made before after r ↔ HostHas k before after r
  host_has checks given made k hands sound = ((λ w. (refusal w, book w)), (λ h. back h k.answer refl))
    where
      refusal : WritesSheet checks made before after r → (why : Refusal) → k.answer ≡ Err why → (r ≡ Err why) × (after ≡ before)
      refusal w why e = writes_once checks made before after before r (Err why) w (handed_refused checks given made k hands why before e)

      book : WritesSheet checks made before after r → k.answer ≡ Ok tt → Writes k.book before after r
      book w e =
          let p : Passed checks = (done_exactly checks given made k hands).0 (ap answer_says e) in
          let same : k.book ≡ made = done_hands_back checks given made k hands e in
          passed_alike (book_checks k.book) checks k.book before after r (passes (sound_passes k.book (sound e)) none) p
          (subst (λ (c : Book). WritesSheet checks c before after r) (sym same) w)

      back : HostHas k before after r → (a : Answer) → k.answer ≡ a → WritesSheet checks made before after r
      back h (Ok _) e = handed_writes checks given made k hands before after r e (sound e) (h.1 e)
      back h (Err why) e =
          let w = h.0 why e in
          rw (w.0, w.1) (handed_refused checks given made k hands why before e)

  pub opens_for_host : (n : ℕ) (k : Kept) → Opens n k → OpensSheet n before after r ↔ HostHas k before after r
  opens_for_host n k o = host_has (open_checks n) (book_of 0 []) (book_of n []) k o (opened_sound n k o)

  change_for_host : (b : Book) (a : Change) (k : Kept) → length b.notices ≡ 48 → HandsBack (change_checks a b) b (changed a b) k → ChangesSheet b a before after r ↔ HostHas k before after r
  change_for_host b a k places f =
      host_has (change_checks a b) b (changed a b) k f
      (λ e. changed_sound b a k (sound_from b a places ((done_exactly (change_checks a b) b (changed a b) k f).0 (ap answer_says e))) places f)

  pub files_for_host : (b : Book) (x : Notice) (k : Kept) → length b.notices ≡ 48 → Files b x k → ChangesSheet b (Change.file x) before after r ↔ HostHas k before after r
  files_for_host b x k places f = change_for_host b (Change.file x) k places f

  pub withdraws_for_host : (b : Book) (j : ℕ) (k : Kept) → length b.notices ≡ 48 → Withdraws b j k → ChangesSheet b (Change.withdraw j) before after r ↔ HostHas k before after r
  withdraws_for_host b j k places f = change_for_host b (Change.withdraw j) k places f
