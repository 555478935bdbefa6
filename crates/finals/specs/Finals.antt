-- docs/RULES.md, 'Writing a book', for the desk: of a sheet, the sheet of its final book. The theorems named here stand in
-- proofs/Finals.antt.
use Rattle.sheet.specs.Format.{HeaderRead}
use Rattle.std.specs.Prelude.{◌≡◌, List, [], ◌++◌, ℕ, length, take, drop, Result, Ok, Err}
use Rattle.sheet.specs.Entries.{ReadsHeader}
use Rattle.book.specs.declared.Book.{Book}
use Rattle.changes.specs.After.{After}
use Rattle.written.specs.Sheets.{sheet_of}
use Rattle.input.specs.Answers.{Input, Answers}
use Rattle.finals.specs.declared.NoSheet.{NoSheet}

-- what is written: a sheet of so many bytes, or why there is none
abbrev pub Final : Type 0
Final = Result ℕ NoSheet

-- "A book is written as a sheet", of version 2 "where some notice that stands is busy": from the one after all actions, at the front of the memory, with its
-- length as the answer (`final_sheet`). Where the header is refused its refusal is the answer and nothing is written (`final_refusal`).
abbrev pub FinalOf : (sheet before : List ℕ) → HeaderRead → Final → List ℕ → Type 0
FinalOf sheet before (Ok head) answer after =
    (b : Book) × After sheet head.n head.count b × (answer ≡ Ok (length (sheet_of b))) × (after ≡ sheet_of b ++ drop (length (sheet_of b)) before)
FinalOf sheet before (Err why) answer after = (answer ≡ Err (NoSheet.Refused why)) × (after ≡ before)

-- by the header that is read: `final_once` says that there is no second answer and no second memory, `final_since` which filings are written,
-- `final_again` that what is written is written of itself again
pub record WritesFinal (sheet before : List ℕ) (answer : Final) (after : List ℕ) : Type 0 where
  pub header : HeaderRead
  pub reads : ReadsHeader sheet header
  pub final : FinalOf sheet before header answer after

-- what the program answers by what it read: `final_unread_exactly`, `final_answers_once`
abbrev pub AnswersFinal : (memory : List ℕ) (read : Input) (before : List ℕ) (answer : Final) (after : List ℕ) → Type 0
AnswersFinal = Answers WritesFinal (Err NoSheet.Unread)

-- What goes to standard output then: "prints the sheet of its final book. Where the header is refused or a read has failed it prints
-- nothing": `prints_the_sheet`, `refused_prints_nothing`; nothing where a read failed: `unread_prints_nothing`.
abbrev pub sheet_printed : (memory : List ℕ) → Final → List ℕ
sheet_printed memory (Ok bytes) = take bytes memory
sheet_printed memory (Err (NoSheet.Refused why)) = []
sheet_printed memory (Err NoSheet.Unread) = []
