-- docs/RULES.md, 'Writing a book' and 'Classes': the sheet of a book, and what writing it answers. The theorems named here stand in
-- proofs/Entries.antt, unless another file is named.
use Rattle.table.specs.declared.Refusal.{Refusal}
use Rattle.std.specs.Prelude.{◌≡◌, cond, List, [], ◌∷◌, ◌++◌, ℕ, length, drop, Result}
use Rattle.table.specs.Reply.{Reply, refused, says, alone}
use Rattle.table.specs.Checks.{Check, ◌when◌, ◌below◌, checked}
use Rattle.notices.specs.declared.Notice.{Notice}
use Rattle.notices.specs.Classes.{busy}
use Rattle.standing.specs.Picked.{some}
use Rattle.actions.specs.Layout.{action_length, bytes_before}
use Rattle.actions.specs.Rows.{rows}
use Rattle.sheet.specs.Format.{header_bytes}
use Rattle.book.specs.declared.Book.{Book}
use Rattle.book.specs.Standing.{standing}
use Rattle.book.specs.Entries.{book_checks}

-- "The sheet has version 2 where some notice that stands is busy", and otherwise version 1: `version_2_exactly`, `version_1_exactly` (proofs/Definitions.antt)
abbrev pub version_for : List Notice → ℕ
version_for l = cond (some busy l) 2 1

-- how many bytes each filing has then
abbrev pub each_for : List Notice → ℕ
each_for l = action_length (version_for l)

-- "A book is written as a sheet: the header, then a filing of every notice that stands, the lowest number first.": `sheet_since` (proofs/Since.antt)
-- says it of any run of changes, `sheet_spelled` (proofs/Definitions.antt) of the worked example byte by byte, `length_sheet` how long it is. In
-- proofs/Round.antt: `header_of_sheet`, `filing_of_sheet` and `numbers_rise` say what is read of it.
-- "Run from an empty book, the sheet leads to a book that answers everything alike; and that book, written again, gives the same bytes.":
-- `runs_to_itself` and `runs_to_no_other` say that it gives the book itself, `written_again` and `round_trip` that the bytes are the same, `sheet_tells`
-- that no two books have one sheet.
abbrev pub sheet_of : Book → List ℕ
sheet_of b = header_bytes (version_for (standing b)) b.n (length (standing b)) ++ rows (each_for (standing b)) (standing b)

-- "A book has room for 48 notices standing together.": the memory in which the sheet of every book has room, one of version 2 with 48 filings:
-- `at_most_written`; it takes no less: `most_exactly`, `most_attained`
abbrev pub most_written : ℕ
most_written = bytes_before (action_length 2) 48

-- the number and values of each answer: `sheet_answered`, `written_numbered`; no two say the same, `written_tells` (proofs/Once.antt)
abbrev pub Written : Type 0
Written = Result ℕ Refusal

abbrev pub written_says : Written → Reply
written_says = says alone

-- 13, "the lent memory is not long enough", after the checks of what makes the book: `room_gives`, and the room for exactly the
-- sheet's bytes is enough, `room_lets_pass`
abbrev pub room_checks : List Check → Book → List ℕ → List Check
room_checks checks b memory = checks ++ (13 when length memory below length (sheet_of b)) ∷ []

-- "The answer is the length of the sheet, and the bytes after it are left.": `written_exactly`, `sheet_answered`. "On a refusal no byte
-- of lent memory is written": `refused_where`, `refused_writes_nothing`. `writes_once` (proofs/Once.antt) says that there is no second
-- answer.
pub record WritesSheet (checks : List Check) (b : Book) (before after : List ℕ) (r : Written) : Type 0 where
  pub says : written_says r ≡ checked (room_checks checks b before) refused (Reply.accepted (length (sheet_of b) ∷ []))
  pub leaves : after ≡ checked (room_checks checks b before) (λ k. before) (sheet_of b ++ drop (length (sheet_of b)) before)

-- "The numbers are 16, then 13.": `write_order` (proofs/Definitions.antt), `write_lets_pass`; `write_gives_sixteen`,
-- `write_gives_thirteen`, `write_gives_length`
abbrev pub Writes : Book → List ℕ → List ℕ → Written → Type 0
Writes b before after r = WritesSheet (book_checks b) b before after r
