-- Demand 3 for the program: the book after a sheet's first actions is that of a run of filings and withdrawals from an empty book, so each line that is
-- printed is the line of the new book into which only the notices accepted and not withdrawn since were filed.
use mathlib.Core.Path.{◌≡◌, sym, subst, ◌∙◌}
use mathlib.Core.List.{List, map, Memᴰ}
use mathlib.Core.Logic.{◌↔◌}
use Prim.Native.Nat.{ℕ}
use Rattle.notices.specs.declared.Notice.{Notice}
use Rattle.standing.specs.Rising.{Distinct}
use Rattle.book.specs.declared.Book.{Book}
use Rattle.book.specs.Entries.{opened}
use Rattle.changes.specs.Runs.{Change, run, StandsSince}
use Rattle.changes.specs.After.{After}
use Rattle.changes.proofs.Since.{same_book}
use Rattle.sheet.specs.Entries.{part_of}
use Rattle.printed.specs.Lines.{LineAt}
use Rattle.printed.proofs.LineOnce.{line_at_once}

-- "A sheet that is run makes such a run too": `After` has its changes. The new book of the notices that stand since is the same book, and so is the next line.
module _ (n : ℕ) (sheet : List ℕ) (k : ℕ) (b : Book) (made : After sheet n k b) (l : List Notice) (apart : Distinct l)
    (these : (x : Notice) → Memᴰ x l ↔ StandsSince (opened n) made.changes x) where
  abbrev new : Book
  new = run (map Change.file l) (opened n)

  pub sheet_book_alike : new ≡ b
  sheet_book_alike = (same_book n made.changes l apart these).0 ∙ sym made.makes

  pub line_alike : (x y : List ℕ) → LineAt n b (part_of sheet k) x → LineAt n new (part_of sheet k) y → x ≡ y
  line_alike x y p q = line_at_once n b (part_of sheet k) x y p (subst (λ (c : Book). LineAt n c (part_of sheet k) y) sheet_book_alike q)
