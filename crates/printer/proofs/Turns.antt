-- A turn of the loop over a sheet's actions: the line of the action that was read lies in its place, and the lines before it with it.
use mathlib.Core.Path.{◌≡◌, refl, ◌∙◌}
use mathlib.Core.List.{List, [], ◌++◌}
use Prim.Native.Nat.{ℕ, suc, ◌+◌, ◌≤◌}
use native.Mathlib.Omega.{arith}
use lib.ListN.{length}
use Rattle.actions.specs.Format.{ActionRead}
use Rattle.actions.specs.Entries.{ReadsAction}
use Rattle.book.specs.declared.Book.{Book}
use Rattle.book.specs.Entries.{opened}
use Rattle.changes.specs.Runs.{run}
use Rattle.changes.specs.After.{changes_of, Changes.none, After}
use Rattle.changes.proofs.After.{after_more, nothing_changes}
use Rattle.sheet.specs.Entries.{part_of}
use Rattle.printed.specs.Lines.{LineOf}
use Rattle.printed.specs.Runs.{Lines.start, Lines.more, action_room}
use Rattle.words.specs.Wrote.{Wrote}
use Rattle.words.proofs.Writing.{wrote_none, wrote_more}
use Rattle.printer.specs.Written.{LinesWritten, LineWritten}

-- the line that an action's entry tells, and the book that its changes leave
pub line_told : {n at next : ℕ} {b left : Book} {action told : ActionRead} {before after text : List ℕ}
    → action ≡ told → LineOf n b told text → left ≡ run (changes_of told) b → Wrote before at text after next × (next ≤ at + action_room)
    → LineWritten n b action before at left after next
line_told e tells leaves w = record { text = _; tells = rw e tells; leaves = rw e leaves; wrote = w.0; short = w.1 }

-- before the first action no line is written, and the book is the opened one
pub no_lines : (sheet : List ℕ) (n : ℕ) (before : List ℕ) (at : ℕ) → at ≤ length before → LinesWritten sheet n 0 before at before at
no_lines sheet n before at fits = record { text = []; tells = start; wrote = wrote_none before at fits; short = omega arith }

pub opened_first : (sheet : List ℕ) {n : ℕ} {b : Book} → b ≡ opened n → After sheet n 0 b
opened_first sheet {n} e = record { changes = []; held = none; makes = e ∙ nothing_changes (opened n) }

module _ {sheet : List ℕ} {n k : ℕ} {b : Book} {action : ActionRead} (now : After sheet n k b) (reads : ReadsAction (part_of sheet k) action) where
  -- a line more
  pub lines_more : {before mid after : List ℕ} {at next last : ℕ} {left : Book} → at ≤ length before
      → LinesWritten sheet n k before at mid next → LineWritten n b action mid next left after last → LinesWritten sheet n (suc k) before at after last
  lines_more {before} {at = at} fits w l =
      record {
        text = w.text ++ l.text;
        tells = more w.tells now (record { action = action; reads = reads; tells = l.tells });
        wrote = wrote_more before at fits w.wrote l.wrote;
        short = let s = l.short in let i = w.short in omega arith;
      }

  -- and the book after it
  pub left_after : {before after : List ℕ} {at next : ℕ} {left : Book} → LineWritten n b action before at left after next → After sheet n (suc k) left
  left_after l = rw l.leaves (after_more now reads)
