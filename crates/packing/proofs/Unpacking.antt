-- What a host reads off a packed answer, by a remainder and a quotient.
use mathlib.Core.Path.{◌≡◌, refl}
use mathlib.Core.List.{List, [], ◌∷◌}
use Prim.Native.Nat.{ℕ, ◌*◌, ◌/◌, ◌%◌, ◌≤◌, ◌<◌}
use native.Mathlib.Omega.{arith}
use Rattle.table.specs.declared.Refusal.{Refusal}
use Rattle.table.specs.Numbers.{number_of}
use Rattle.table.specs.Reply.{Reply, refused}
use Rattle.table.proofs.Numbers.{above_zero, below_seventeen}
use Rattle.packing.specs.Packed.{value_of, packed}

-- one value is itself, and none reads as 0
pub no_value : value_of [] ≡ 0
no_value = refl

pub one_value : (v : ℕ) → value_of (v ∷ []) ≡ v
one_value v = refl

-- of two and more the first is the low byte, and the others follow from bit 8 on
pub first_value_lowest : (v w : ℕ) (vs : List ℕ) → v < 256 → (value_of (v ∷ w ∷ vs) % 256 ≡ v) × (value_of (v ∷ w ∷ vs) / 256 ≡ value_of (w ∷ vs))
first_value_lowest v w vs h = (omega arith, omega arith)

-- an accepted call is packed as its value, above a low byte of 0
pub accepted_packs : (vs : List ℕ) → packed (Reply.accepted vs) ≡ 256 * value_of vs
accepted_packs [] = refl
accepted_packs (v ∷ vs) = refl

-- 0 and the value of an accepted call, or the table's number and its value
pub accepted_unpacks : (vs : List ℕ) → (packed (Reply.accepted vs) % 256 ≡ 0) × (packed (Reply.accepted vs) / 256 ≡ value_of vs)
accepted_unpacks [] = (refl, refl)
accepted_unpacks (v ∷ vs) = (omega arith, omega arith)

pub refused_unpacks : (k : ℕ) (vs : List ℕ) → k < 256 → (packed (Reply.refused_with k vs) % 256 ≡ k) × (packed (Reply.refused_with k vs) / 256 ≡ value_of vs)
refused_unpacks k [] h = (omega arith, omega arith)
refused_unpacks k (v ∷ vs) h = (omega arith, omega arith)

-- docs/RULES.md, 'Through C': of 11 with a stage and a notice's number, the low byte is 11, the next is the stage, and the bits from 16 on are the number
pub eleven_unpacks : (stage number : ℕ) → stage < 256
    → let r : ℕ = packed (Reply.refused_with 11 (stage ∷ number ∷ [])) in (r % 256 ≡ 11) × (r / 256 % 256 ≡ stage) × (r / 65536 ≡ number)
eleven_unpacks stage number h = (omega arith, omega arith, omega arith)

-- a refusal reads as its number, which is never 0: no refused call looks accepted
pub refusal_shows : (why : Refusal) → (packed (refused (number_of why)) % 256 ≡ number_of why) × (1 ≤ packed (refused (number_of why)) % 256)
refusal_shows why =
    let small = below_seventeen why in
    let some = above_zero why in
    (omega arith, omega arith)
