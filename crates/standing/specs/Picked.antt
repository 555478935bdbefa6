-- What a test of a notice picks from a list of notices, over any test: whether there is one, the number of the first, and all of them.
use Rattle.std.specs.Prelude.{◌≡◌, Bool, true, ℕ, ◌≤◌, filter, find, option_map, unwrap_or}
use Rattle.std.specs.List.{list_any}
use mathlib.Core.List.{List, Memᴰ}
use Rattle.notices.specs.declared.Notice.{Notice}

-- a notice of the list that is picked
abbrev pub Picked : (Notice → Bool) → List Notice → Notice → Type 0
Picked test l x = Memᴰ x l × (test x ≡ true)

-- some notice of the list is picked
abbrev pub Some : (Notice → Bool) → List Notice → Type 0
Some test l = (x : Notice) × Memᴰ x l × (test x ≡ true)

-- docs/RULES.md, 'The book': "the lowest number of a notice" of which something holds: one of them has it, and none has a lower one. Of the notices
-- that are picked from a list by rising number it is that of the first: `lowest_exactly`; there is at most one: `lowest_number_once` (proofs/Lowest).
pub record LowestNumber (P : Notice → Type 0) (k : ℕ) : Type 0 where
  pub notice : Notice
  pub among : P notice
  pub numbered : notice.number ≡ k
  pub least : (x : Notice) → P x → k ≤ x.number

-- whether one is: `some_exactly` (proofs/Picked)
abbrev pub some : (Notice → Bool) → List Notice → Bool
some test l = list_any test l

-- The number of the first that is picked, 0 where none is. `lowest_none` and `lowest_some` tie it to `Some`, and `lowest_exactly` says that it is
-- the lowest such number among notices by rising number (proofs/Lowest).
abbrev pub lowest : (Notice → Bool) → List Notice → ℕ
lowest test l = unwrap_or (option_map (λ x. x.number) (find test l)) 0

-- Those that are picked, and no others: `those_exactly` (proofs/Picked); by rising number where the list is: `those_filed` (proofs/Members).
abbrev pub those : (Notice → Bool) → List Notice → List Notice
those test l = filter test l
