-- docs/RULES.md, 'The book' and 'What the user demands': runs of filings and withdrawals from an opened book.
use Rattle.std.specs.Prelude.{◌≡◌, true, List, [], ◌∷◌, ◌++◌, ℕ}
use Rattle.table.specs.Reply.{Reply, refused}
use Rattle.table.specs.Checks.{Check, checked}
use Rattle.notices.specs.declared.Notice.{Notice}
use Rattle.notices.specs.Notices.{names}
use Rattle.book.specs.declared.Book.{Book}
use Rattle.book.specs.Entries.{open_checks, opened, file_checks, withdraw_checks, filed, withdrawn}

-- The theorems named here stand in proofs/Runs.antt, unless another file is named.

-- what the desk does to a book, whatever the book answers
pub data Change : Type 0 where
  file : Notice → Change
  withdraw : ℕ → Change

-- the checks of a change, what it answers, and the book that it leaves: those of `Files` and `Withdraws`, `files_change` and
-- `withdraws_change` (proofs/Changes.antt)
abbrev pub change_checks : Change → Book → List Check
change_checks (Change.file x) b = file_checks b x
change_checks (Change.withdraw k) b = withdraw_checks b k

abbrev pub changed : Change → Book → Book
changed (Change.file x) b = filed b x
changed (Change.withdraw k) b = withdrawn b k

abbrev pub answer : Change → Book → Reply
answer a b = checked (change_checks a b) refused (Reply.accepted [])

abbrev pub after : Change → Book → Book
after a b = checked (change_checks a b) (λ k. b) (changed a b)

abbrev pub Accepted : Change → Book → Type 0
Accepted a b = answer a b ≡ Reply.accepted []

-- the book after one change and then the others: `run_none`, `run_one`, `run_on`
unfoldable pub run : List Change → Book → Book
run [] b = b
run (a ∷ rest) b = run rest (after a b)

-- each is accepted, made after those before it: `all_accepted_each`
unfoldable pub AllAccepted : List Change → Book → Type 0
AllAccepted [] b = Unit
AllAccepted (a ∷ rest) b = Accepted a b × AllAccepted rest (after a b)

-- A book that an accepted opening and accepted filings and withdrawings produce: `opened_reachable`, `accepted_reachable`, and no others,
-- `reachable_only`.
pub record Reachable (b : Book) : Type 0 where
  pub n : ℕ
  pub opens : checked (open_checks n) refused (Reply.accepted []) ≡ Reply.accepted []
  pub changes : List Change
  pub accepts : AllAccepted changes (opened n)
  pub makes : run changes (opened n) ≡ b

-- no change of the list, made in its turn from this book on, is an accepted withdrawal of number k: `not_withdrawn_each`
unfoldable pub NotWithdrawn : ℕ → List Change → Book → Type 0
NotWithdrawn k [] b = Unit
NotWithdrawn k (a ∷ rest) b = (a ≡ Change.withdraw k → Accepted a b → ⊥) × NotWithdrawn k rest (after a b)

-- In a run from this book on the notice was accepted, and it was not withdrawn since. `stands_exactly` (proofs/Since.antt) says that these are the
-- notices that stand, `since_list` that for every run they are a list.
pub record StandsSince (b : Book) (changes : List Change) (x : Notice) : Type 0 where
  pub before : List Change
  pub later : List Change
  pub order : changes ≡ before ++ Change.file x ∷ later
  pub accepted : Accepted (Change.file x) (run before b)
  pub kept : NotWithdrawn x.number later (after (Change.file x) (run before b))

-- in a run from an empty book of n stages, a notice names the link that was accepted and not withdrawn since
abbrev pub NamesSince : ℕ → List Change → ℕ → ℕ → ℕ → Notice → Type 0
NamesSince n changes i j c x = StandsSince (opened n) changes x × (names n x i j c ≡ true)

-- some notice does: `stopped_exactly` (proofs/Since.antt) says that these are the links that are stopped, `link_exactly` that the link test answers the lowest
-- number of one that does
abbrev pub NamedSince : ℕ → List Change → ℕ → ℕ → ℕ → Type 0
NamedSince n changes i j c = (x : Notice) × NamesSince n changes i j c x
