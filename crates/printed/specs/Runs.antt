-- docs/RULES.md, 'What is printed': what running a sheet prints.
use Rattle.table.specs.declared.Refusal.{Refusal}
use Rattle.sheet.specs.Format.{HeaderRead}
use Rattle.std.specs.Prelude.{◌≡◌, List, [], ◌∷◌, ◌++◌, ℕ, suc, ◌+◌, ◌*◌, ◌≤◌, length, drop, Result, Ok, Err}
use Rattle.table.specs.Reply.{Reply, refused, says, alone}
use Rattle.table.specs.Checks.{Check, Given, Passed, ◌when◌, ◌below◌}
use Rattle.book.specs.declared.Book.{Book}
use Rattle.changes.specs.After.{After}
use Rattle.sheet.specs.Entries.{ReadsHeader, part_of}
use Rattle.printed.specs.Lines.{LineAt}
use Rattle.printed.specs.Text.{sheet_line, refused_sheet}

-- "For every action comes one line more": the lines of a sheet's first actions, each over the book after those before it (`After`, which starts
-- from an empty one). `action_line_at` says that the line of each action stands in its place, `line_for_each` that there are so many.
pub data Lines (sheet : List ℕ) (n : ℕ) : ℕ → List ℕ → Type 0 where
  start : Lines sheet n 0 []
  more : {k : ℕ} {text next : List ℕ} {b : Book} → Lines sheet n k text → After sheet n k b → LineAt n b (part_of sheet k) next → Lines sheet n (suc k) (text ++ next)

-- all that is printed of a sheet with this header: `first_line`, `every_action_printed` and `refused_text` say what stands where,
-- `text_lines` how many lines there are
abbrev pub Prints : List ℕ → HeaderRead → List ℕ → Type 0
Prints sheet (Ok head) text = (lines : List ℕ) × Lines sheet head.n head.count lines × (text ≡ sheet_line head.n head.count ++ lines)
Prints sheet (Err why) text = text ≡ refused_sheet why

-- the room that a run asks for, whatever it prints: so many bytes for the first line, and so many for each action (`room_grows`)
abbrev pub first_line_room : ℕ
first_line_room = 24

abbrev pub action_room : ℕ
action_room = 48

abbrev pub room : HeaderRead → ℕ
room (Ok head) = first_line_room + action_room * head.count
room (Err why) = first_line_room

-- "a count of more than 4,096 actions" is refused, so no run asks for more than this, and some for all of it: `room_within`, `most_is_asked`
abbrev pub most_room : ℕ
most_room = first_line_room + action_room * 4096

-- 13: "the lent memory is not long enough" (`run_order`, `thirteen_exactly`)
abbrev pub run_checks : HeaderRead → List ℕ → List Check
run_checks header memory = (13 when length memory below room header) ∷ []

-- the number and values of a run's answer: how many bytes it wrote (`printed_exactly`, `ran_numbered`)
abbrev pub Ran : Type 0
Ran = Result ℕ Refusal

abbrev pub ran_says : Ran → Reply
ran_says = says alone

-- a run writes what is printed at the front of the lent memory, within the room that it asks for; the rest stays (`front_and_rest`)
abbrev pub Printed : List ℕ → HeaderRead → List ℕ → Ran → List ℕ → Type 0
Printed sheet header before answer after =
    (text : List ℕ) × Prints sheet header text × (ran_says answer ≡ Reply.accepted (length text ∷ [])) × (after ≡ text ++ drop (length text) before)
    × (length text ≤ room header)

-- where 13 is given nothing is written. `run_once` says that no second answer is left, nor a second text.
pub record RunsBy (sheet : List ℕ) (header : HeaderRead) (before : List ℕ) (answer : Ran) (after : List ℕ) : Type 0 where
  pub refuses : (k : ℕ) → Given k (run_checks header before) → (ran_says answer ≡ refused k) × (after ≡ before)
  pub prints : Passed (run_checks header before) → Printed sheet header before answer after

-- a run is by its sheet's own header (`run_by_header`)
pub record Runs (sheet before : List ℕ) (answer : Ran) (after : List ℕ) : Type 0 where
  pub header : HeaderRead
  pub reads : ReadsHeader sheet header
  pub runs : RunsBy sheet header before answer after
