-- Open, file and withdraw for a host, which holds a book as a sheet: "Both changes give the book back beside the answer", as the sheet of the
-- book after the change. The numbers are those of docs/RULES.md for the entry, then 13: `open_sheet_order`, `file_sheet_order`,
-- `withdraw_sheet_order` (proofs/Definitions.antt).
use Rattle.std.specs.Prelude.{◌≡◌, List, [], ℕ, Ok, Err}
use Rattle.table.specs.declared.Refusal.{Refusal}
use Rattle.table.specs.Reply.{Answer}
use Rattle.book.specs.declared.Book.{Book}
use Rattle.book.specs.declared.Kept.{Kept}
use Rattle.book.specs.Standing.{book_of}
use Rattle.book.specs.Entries.{open_checks}
use Rattle.changes.specs.Runs.{Change, change_checks, changed}
use Rattle.written.specs.Sheets.{WritesSheet, Writes, Written}

-- `opens_for_host` (proofs/Hosts.antt)
abbrev pub OpensSheet : ℕ → List ℕ → List ℕ → Written → Type 0
OpensSheet n before after r = WritesSheet (open_checks n) (book_of n []) before after r

-- a filing or a withdrawing: `files_for_host`, `withdraws_for_host` (proofs/Hosts.antt)
abbrev pub ChangesSheet : Book → Change → List ℕ → List ℕ → Written → Type 0
ChangesSheet b a before after r = WritesSheet (change_checks a b) (changed a b) before after r

-- What a host has of an entry that hands a book back with its answer: refused, the refusal, and its memory as it was; otherwise the book, written.
-- Theorems say that the two above are this.
abbrev pub HostHas : Kept → List ℕ → List ℕ → Written → Type 0
HostHas k before after r =
    ((why : Refusal) → k.answer ≡ Err why → (r ≡ Err why) × (after ≡ before)) × (k.answer ≡ Ok tt → Writes k.book before after r)
