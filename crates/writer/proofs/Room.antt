-- Where the memory has too little room for the sheet of a book.
use mathlib.Core.Path.{◌≡◌, ap, ap₂, ◌∙◌}
use mathlib.Core.Bool.{false}
use mathlib.Core.List.{List}
use Prim.Native.Nat.{ℕ, ◌+◌, ◌*◌, ◌<◌}
use native.Mathlib.Omega.{arith}
use lib.ListN.{length}
use Rattle.std.specs.Prelude.{Err}
use Rattle.table.specs.declared.Refusal.{Refusal}
use Rattle.table.specs.Checks.{Passed.none, Passed.passes}
use Rattle.notices.specs.declared.Notice.{Notice}
use Rattle.actions.specs.Layout.{action_length}
use Rattle.book.specs.declared.Book.{Book}
use Rattle.book.specs.Standing.{standing, unsound}
use Rattle.book.specs.Entries.{book_checks}
use Rattle.written.specs.Sheets.{version_for, WritesSheet}
use Rattle.written.proofs.Handing.{length_sheet, writes_short}

-- memory that is shorter than the header and the rows is shorter than the sheet
pub sheet_exceeds : {b : Book} {l : List Notice} {memory : List ℕ} {version each : ℕ} → unsound b ≡ false → l ≡ standing b → version ≡ version_for l → each ≡ action_length version
    → length memory < 8 + each * length l → WritesSheet (book_checks b) b memory memory (Err Refusal.Room)
sheet_exceeds {b} {memory = memory} sound same by long short =
    let each = long ∙ ap action_length (by ∙ ap version_for same) in
    let all = ap₂ ◌*◌ each (ap length same) in
    let bytes = length_sheet b in
    writes_short (book_checks b) b memory (passes sound none) (omega arith)
