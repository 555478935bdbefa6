-- A change of the book that a sheet makes, handed back as a sheet.
use mathlib.Core.Path.{◌≡◌, refl, ap, subst}
use mathlib.Core.Bool.{false}
use mathlib.Core.List.{List}
use Prim.Native.Nat.{ℕ}
use Rattle.std.specs.Prelude.{Ok, Err, IsErrAnd}
use Rattle.table.specs.declared.Refusal.{Refusal}
use Rattle.table.specs.Numbers.{number_of}
use Rattle.table.specs.Checks.{Passed, Passed.none, Passed.passes}
use Rattle.book.specs.declared.Book.{Book}
use Rattle.book.specs.Standing.{unsound}
use Rattle.book.specs.Entries.{HandsBack, book_checks}
use Rattle.book.proofs.Entries.{done_exactly, done_hands_back}
use Rattle.changes.specs.Runs.{Change, change_checks, changed}
use Rattle.written.specs.Sheets.{Written, written_says, Writes, WritesSheet}
use Rattle.written.proofs.Handing.{passed_alike, handed_refused}
use Rattle.packing.specs.Packed.{packed}
use Rattle.handed.specs.Books.{HandsOver}
use Rattle.handed.proofs.Overs.{over_handed}
use Rattle.held.specs.Lives.{Asks}

-- of a change that is refused nothing is written; of one that is accepted the book that it makes
module _ {sheet : List ℕ} {b : Book} (hands : HandsOver sheet b (Ok tt)) (a : Change) (made : Book) where
  pub change_refused : (why : Refusal) (r : Written) {memory : List ℕ} → HandsBack (change_checks a b) b (changed a b) (record { book = made; answer = Err why })
      → IsErrAnd r (λ e. e ≡ why) → Asks sheet a memory memory (packed (written_says r))
  change_refused why (Ok bytes) refuses e = absurd e
  change_refused why (Err e) {memory} refuses same =
      over_handed hands refl
      (Err why, handed_refused (change_checks a b) b (changed a b) (record { book = made; answer = Err why }) refuses why memory refl, ap (λ (k : Refusal). number_of k) same)

  pub change_written : {before after : List ℕ} (r : Written) → HandsBack (change_checks a b) b (changed a b) (record { book = made; answer = Ok tt })
      → unsound made ≡ false → Writes made before after r → Asks sheet a before after (packed (written_says r))
  change_written {before} {after} r accepts sound w =
      let p = (done_exactly (change_checks a b) b (changed a b) (record { book = made; answer = Ok tt }) accepts).0 refl in
      let same = done_hands_back (change_checks a b) b (changed a b) (record { book = made; answer = Ok tt }) accepts refl in
      let written = passed_alike (change_checks a b) (book_checks made) made before after r p (passes sound none) w in
      over_handed hands refl (r, subst (λ (c : Book). WritesSheet (change_checks a b) c before after r) same written, refl)
