-- No second answer: whatever meets the promise of writing is one and the same, for good and refused input alike, whatever is checked before the room.
use Rattle.std.specs.Prelude.{Ok, Err}
use mathlib.Core.Path.{◌≡◌, sym, ap, ◌∙◌}
use mathlib.Core.List.{List}
use Prim.Native.Nat.{ℕ}
use Rattle.table.specs.Checks.{Check}
use Rattle.table.specs.Numbers.{number_of}
use Rattle.table.proofs.Checks.{zero_one}
use Rattle.table.proofs.Numbers.{number_tells}
use Rattle.book.specs.declared.Book.{Book}
use Rattle.written.specs.Sheets.{written_says, WritesSheet, Written}

pub written_tells : (a b : Written) → written_says a ≡ written_says b → a ≡ b
written_tells (Ok j) (Ok k) e = let q : j ≡ k = cc in ap Ok q
written_tells (Ok j) (Err w) e = absurd (zero_one cc)
written_tells (Err v) (Ok k) e = absurd (zero_one cc)
written_tells (Err v) (Err w) e = let z : number_of v ≡ number_of w = cc in ap Err (number_tells v w z)

-- the answer, and every byte of the lent memory
pub writes_once : (checks : List Check) (b : Book) (before after later : List ℕ) (q r : Written)
    → WritesSheet checks b before after q → WritesSheet checks b before later r → (q ≡ r) × (after ≡ later)
writes_once checks b before after later q r p s = (written_tells q r (p.says ∙ sym s.says), p.leaves ∙ sym s.leaves)
