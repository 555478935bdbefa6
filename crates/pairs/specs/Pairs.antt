-- Routes for many pairs of labels over one book: what one call answers, and what it leaves in the lent memory. The theorems named here stand in
-- proofs/Pairs.antt.
use Rattle.std.specs.Prelude.{◌≡◌, not, ◌||◌, List, [], ◌∷◌, ℕ, ◌/◌, ◌%◌, eqb, length}
use Rattle.table.specs.Reply.{Reply, refused}
use Rattle.table.specs.Checks.{Check, checked, Given, Passed, ◌when◌, ◌below◌}
use Rattle.packing.specs.Packed.{packed}
use Rattle.book.specs.declared.Book.{Book}
use Rattle.pairs.specs.Answered.{Answered}

-- how many pairs there are, and how many labels are left over: `pairs_pass`
abbrev pub pairs_in : List ℕ → ℕ
pairs_in pairs = length pairs / 2

abbrev pub left_over : List ℕ → ℕ
left_over pairs = length pairs % 2

-- 13: a source without a destination, or "the lent memory is not long enough", fewer answers than pairs: `pairs_pass` says what passes
abbrev pub pairs_checks : List ℕ → List ℕ → List Check
pairs_checks pairs memory = (13 when (not (eqb (left_over pairs) 0) || length memory below pairs_in pairs)) ∷ []

-- 0, and each pair's answer in the memory; or 13, and the memory as it was. `pairs_once`: no second answer, and no second memory.
pub record RoutesPairs (b : Book) (choice : ℕ) (pairs before after : List ℕ) (r : ℕ) : Type 0 where
  pub says : r ≡ packed (checked (pairs_checks pairs before) refused (Reply.accepted []))
  pub refuses : (k : ℕ) → Given k (pairs_checks pairs before) → after ≡ before
  pub routes : Passed (pairs_checks pairs before) → Answered b choice pairs (pairs_in pairs) before after
