-- The numbers of the refusals are those of the table of numbers, and no two refusals have one number.
use mathlib.Core.Path.{◌≡◌, refl, sym, ap, ◌∙◌}
use mathlib.Core.List.{[], ◌∷◌}
use Prim.Native.Nat.{ℕ, ◌≤◌, ◌<◌}
use native.Mathlib.Omega.{arith}
use lib.ListN.{get_or}
use Rattle.table.specs.declared.Refusal.{Refusal}
use Rattle.table.specs.declared.Refusal.TheVariants.{Size, Layout, Zero, Place, Field, Wide, Stands, Full, Absent, Label, Tag, Room, Mark, Length, Book}
use Rattle.table.specs.Numbers.{number_of}

-- The table of numbers from top to bottom: 11 comes with a stage, and 17 ends a walk
pub table_in_order :
    number_of Size ∷ number_of Layout ∷ number_of Zero ∷ number_of Place ∷ number_of Field ∷ number_of Wide ∷ number_of Stands ∷ number_of Full
    ∷ number_of Absent ∷ number_of Label ∷ number_of Tag ∷ number_of Room ∷ number_of Mark ∷ number_of Length ∷ number_of Book ∷ []
    ≡ 1 ∷ 2 ∷ 3 ∷ 4 ∷ 5 ∷ 6 ∷ 7 ∷ 8 ∷ 9 ∷ 10 ∷ 12 ∷ 13 ∷ 14 ∷ 15 ∷ 16 ∷ []
table_in_order = refl

-- the refusals by their numbers; 0 and 11 have none of their own
abbrev pub by_number : ℕ → Refusal
by_number k =
    get_or
    (Size ∷ Size ∷ Layout ∷ Zero ∷ Place ∷ Field ∷ Wide ∷ Stands ∷ Full ∷ Absent ∷ Label ∷ Label ∷ Tag ∷ Room ∷ Mark ∷ Length ∷ Book ∷ [])
    k
    Size

has_number : (a : Refusal) → by_number (number_of a) ≡ a
has_number Size = refl
has_number Layout = refl
has_number Zero = refl
has_number Place = refl
has_number Field = refl
has_number Wide = refl
has_number Stands = refl
has_number Full = refl
has_number Absent = refl
has_number Label = refl
has_number Tag = refl
has_number Room = refl
has_number Mark = refl
has_number Length = refl
has_number Book = refl

pub number_tells : (a b : Refusal) → number_of a ≡ number_of b → a ≡ b
number_tells a b e = sym (has_number a) ∙ ap by_number e ∙ has_number b

within_table : (a : Refusal) → (1 ≤ number_of a) × (number_of a < 17)
within_table Size = (omega arith, omega arith)
within_table Layout = (omega arith, omega arith)
within_table Zero = (omega arith, omega arith)
within_table Place = (omega arith, omega arith)
within_table Field = (omega arith, omega arith)
within_table Wide = (omega arith, omega arith)
within_table Stands = (omega arith, omega arith)
within_table Full = (omega arith, omega arith)
within_table Absent = (omega arith, omega arith)
within_table Label = (omega arith, omega arith)
within_table Tag = (omega arith, omega arith)
within_table Room = (omega arith, omega arith)
within_table Mark = (omega arith, omega arith)
within_table Length = (omega arith, omega arith)
within_table Book = (omega arith, omega arith)

-- the table has no number 0
pub above_zero : (a : Refusal) → 1 ≤ number_of a
above_zero a = (within_table a).0

-- 17 is the number of no refusal: it ends a walk
pub below_seventeen : (a : Refusal) → number_of a < 17
below_seventeen a = (within_table a).1
