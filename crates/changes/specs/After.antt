-- docs/RULES.md, 'The sheet': the filings and withdrawals that a sheet holds, and the book after its first actions. The theorems named here stand
-- in proofs/After.antt.
use Rattle.std.specs.Prelude.{◌≡◌, List, [], ◌∷◌, ◌++◌, ℕ, suc, Ok, Err}
use Rattle.actions.specs.Format.{ActionRead}
use Rattle.book.specs.declared.Book.{Book}
use Rattle.book.specs.Entries.{opened}
use Rattle.actions.specs.declared.Action.{Action}
use Rattle.actions.specs.Entries.{ReadsAction}
use Rattle.sheet.specs.Entries.{part_of}
use Rattle.changes.specs.Runs.{Change, run}

-- "Action 1 is a filing", "Action 2 is a withdrawal": these are changes. A route changes nothing, and a layout fault is no action.
-- `files_leave` and `withdraws_leave` say that what an entry leaves is what its changes leave.
abbrev pub changes_of : ActionRead → List Change
changes_of (Ok (Action.File x)) = Change.file x ∷ []
changes_of (Ok (Action.Withdraw k)) = Change.withdraw k ∷ []
changes_of (Ok (Action.Route s d choice)) = []
changes_of (Err why) = []

-- the changes of a sheet's first k actions, in order. `changes_once` says that a sheet has one such list.
pub data Changes (sheet : List ℕ) : ℕ → List Change → Type 0 where
  none : Changes sheet 0 []
  more : {k : ℕ} {changes : List Change} {a : ActionRead} → Changes sheet k changes → ReadsAction (part_of sheet k) a → Changes sheet (suc k) (changes ++ changes_of a)

-- "runs it from an empty book": the book after a sheet's first k actions, in a fabric of n stages. `after_none` and `after_more` say how it comes
-- about, `after_once` that there is one.
pub record After (sheet : List ℕ) (n k : ℕ) (b : Book) : Type 0 where
  pub changes : List Change
  pub held : Changes sheet k changes
  pub makes : b ≡ run changes (opened n)
