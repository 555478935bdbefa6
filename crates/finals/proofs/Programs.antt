-- How a program meets the promise: it makes the book of the sheet and writes it, or hands on the header's refusal. The memory has room for the sheet
-- of every book, so 13 is never given.
use Rattle.sheet.specs.Format.{headed}
use Rattle.std.specs.Prelude.{Ok, Err, Some, None}
use Rattle.input.specs.Answers.{Input}
use mathlib.Core.Path.{◌≡◌, refl, sym, ap, ◌∙◌}
use mathlib.Core.List.{List, [], ◌∷◌, ◌++◌}
use Prim.Native.Nat.{ℕ, ◌≤◌}
use native.Mathlib.Omega.{arith}
use lib.ListN.{length, take, drop}
use Rattle.table.specs.declared.Refusal.{Refusal}
use Rattle.table.specs.Reply.{Reply, refused, Answer}
use Rattle.table.specs.Checks.{Passed}
use Rattle.table.proofs.Checks.{zero_one, passed_accepts}
use Rattle.book.specs.declared.Book.{Book}
use Rattle.book.specs.Standing.{Sound}
use Rattle.book.specs.Entries.{book_checks}
use Rattle.book.proofs.Filings.{sound_passes}
use Rattle.handed.specs.Books.{HandsOver, HandsOver.makes, HandsOver.refuses}
use Rattle.written.specs.Sheets.{sheet_of, most_written, room_checks, Writes, Written}
use Rattle.written.proofs.Handing.{length_sheet, at_most_written}
use Rattle.written.proofs.Entries.{write_lets_pass}
use Rattle.written.proofs.Once.{written_tells}
use Rattle.input.specs.Rooms.{input_room}
use Rattle.input.proofs.Answers.{front_written, nothing_written}
use Rattle.finals.specs.declared.NoSheet.{NoSheet}
use Rattle.finals.specs.Finals.{Final, WritesFinal, AnswersFinal}
use Rattle.finals.proofs.Finals.{front_final}

module _ {b : Book} {before after : List ℕ} {r : Written} (sound : Sound b) (enough : most_written ≤ length before) (w : Writes b before after r) where
  in_room : Passed (room_checks (book_checks b) b before)
  in_room =
      let l = length_sheet b in
      let h = at_most_written b sound in
      (write_lets_pass b before).1 (sound_passes b sound, omega arith)

  all_told : r ≡ Ok (length (sheet_of b))
  all_told =
      written_tells r (Ok (length (sheet_of b)))
      (w.says ∙ passed_accepts refused (Reply.accepted (length (sheet_of b) ∷ [])) (room_checks (book_checks b) b before) in_room)

  -- the sheet of the book is written,
  pub all_written : {bytes : ℕ} → r ≡ Ok bytes → (◌≡◌ {A = Final} (Ok bytes) (Ok (length (sheet_of b)))) × (after ≡ sheet_of b ++ drop (length (sheet_of b)) before)
  all_written {bytes} e =
      let f : Ok bytes ≡ Ok (length (sheet_of b)) = sym e ∙ all_told in
      let same : bytes ≡ length (sheet_of b) = cc in
      (ap Ok same, w.leaves ∙ passed_accepts (λ k. before) (sheet_of b ++ drop (length (sheet_of b)) before) (room_checks (book_checks b) b before) in_room)

  -- and never refused
  pub write_has_room : {why : Refusal} → r ≡ Err why → ⊥
  write_has_room {why} e =
      let f : Err why ≡ Ok (length (sheet_of b)) = sym e ∙ all_told in
      zero_one cc

module _ {sheet before : List ℕ} {b : Book} {a : Answer} (hands : HandsOver sheet b a) where
  -- the book that a sheet makes, written
  pub final_made : {after : List ℕ} {answer : Final} → a ≡ Ok tt
      → (answer ≡ Ok (length (sheet_of b))) × (after ≡ sheet_of b ++ drop (length (sheet_of b)) before) → WritesFinal sheet before answer after
  final_made {after} {answer} e x = go (rw e at hands)
    where
      go : HandsOver sheet b (Ok tt) → WritesFinal sheet before answer after
      go (makes {n = n} {count = count} {version = version} reads made sound) = record { header = headed n count version; reads = reads; final = (b, made, x.0, x.1) }

module _ {sheet before after : List ℕ} {b : Book} {r : Written} (hands : HandsOver sheet b (Ok tt)) (enough : most_written ≤ length before) (w : Writes b before after r) where
  -- it is sound, so its sheet is written,
  pub final_written : {bytes : ℕ} → r ≡ Ok bytes → WritesFinal sheet before (Ok bytes) after
  final_written {bytes} e = go hands
    where
      go : HandsOver sheet b (Ok tt) → WritesFinal sheet before (Ok bytes) after
      go (makes reads made sound) = final_made hands refl (all_written sound enough w e)

  -- and never refused
  pub final_has_room : {why : Refusal} → r ≡ Err why → ⊥
  final_has_room {why} e = go hands
    where
      go : HandsOver sheet b (Ok tt) → ⊥
      go (makes reads made sound) = write_has_room sound enough w e

-- where a sheet makes no book the header's refusal is the answer, and nothing is written
pub final_refused : {sheet before : List ℕ} {b : Book} {why : Refusal} → HandsOver sheet b (Err why) → WritesFinal sheet before (Err (NoSheet.Refused why)) before
final_refused {why = why} (refuses reads size) = record { header = Err why; reads = reads; final = (refl, refl) }

-- what was written of what was read was written of the input,
pub front_final_written : {memory before after : List ℕ} {read : Input} {answer : Final} {bytes : ℕ} → read ≡ Some bytes → input_room ≤ length memory
    → WritesFinal (take bytes memory) before answer after → AnswersFinal memory read before answer after
front_final_written = front_written WritesFinal _ front_final

-- and nothing where a read failed
pub no_final_written : {memory before : List ℕ} {read : Input} → read ≡ None → AnswersFinal memory read before (Err NoSheet.Unread) before
no_final_written = nothing_written WritesFinal _
