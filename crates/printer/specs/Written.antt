-- How the functions that run a sheet speak to each other. No rule of docs/RULES.md: `Runs` of printed is what they lead to.
use Rattle.std.specs.Prelude.{◌≡◌, List, ℕ, ◌+◌, ◌*◌, ◌≤◌}
use Rattle.actions.specs.Format.{ActionRead}
use Rattle.book.specs.declared.Book.{Book}
use Rattle.changes.specs.Runs.{run}
use Rattle.changes.specs.After.{changes_of}
use Rattle.printed.specs.Lines.{LineOf}
use Rattle.printed.specs.Runs.{Lines, action_room}
use Rattle.words.specs.Wrote.{Wrote}

-- the lines of a sheet were written at a place
pub record LinesWritten (sheet : List ℕ) (n count : ℕ) (before : List ℕ) (at : ℕ) (after : List ℕ) (next : ℕ) : Type 0 where
  pub text : List ℕ
  pub tells : Lines sheet n count text
  pub wrote : Wrote before at text after next
  pub short : next ≤ at + action_room * count

-- the line of one action over a book was written at a place, and the book is the one that the action leaves
pub record LineWritten (n : ℕ) (b : Book) (action : ActionRead) (before : List ℕ) (at : ℕ) (left : Book) (after : List ℕ) (next : ℕ) : Type 0 where
  pub text : List ℕ
  pub tells : LineOf n b action text
  pub leaves : left ≡ run (changes_of action) b
  pub wrote : Wrote before at text after next
  pub short : next ≤ at + action_room
