-- docs/RULES.md, 'What is printed': the line of an action, by what its entry answers.
use Rattle.actions.specs.Format.{ActionRead}
use Rattle.std.specs.Prelude.{◌≡◌, List, ℕ, Ok, Err}
use Rattle.book.specs.declared.Book.{Book}
use Rattle.book.specs.declared.Kept.{Kept}
use Rattle.book.specs.Entries.{Files, Withdraws}
use Rattle.routes.specs.Routed.{Routes, Found}
use Rattle.actions.specs.declared.Action.{Action}
use Rattle.actions.specs.Entries.{ReadsAction}
use Rattle.printed.specs.Text.{file_line, withdraw_line, route_line, fault_line}

-- the line of one action over a book, by what the action's entry answers: `filing_line`, `withdrawing_line`, `routing_line`; `line_is_one` says that LF ends it
-- and stands nowhere else in it
abbrev pub LineOf : ℕ → Book → ActionRead → List ℕ → Type 0
LineOf n b (Ok (Action.File x)) text = (r : Kept) × Files b x r × (text ≡ file_line x.number r.answer)
LineOf n b (Ok (Action.Withdraw k)) text = (r : Kept) × Withdraws b k r × (text ≡ withdraw_line k r.answer)
LineOf n b (Ok (Action.Route s d choice)) text = (r : Found) × Routes b s d choice r × (text ≡ route_line n s d r)
LineOf n b (Err why) text = text ≡ fault_line why

-- the line of a part of a sheet, as the action reader reads it (`line_by_action`). "2 is judged before anything that the
-- entry itself checks.": `fault_first`, `fault_before_number_0`
pub record LineAt (n : ℕ) (b : Book) (part text : List ℕ) : Type 0 where
  pub action : ActionRead
  pub reads : ReadsAction part action
  pub tells : LineOf n b action text
