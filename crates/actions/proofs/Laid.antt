-- The eleven bytes of an action, place by place, and where action k lies.
use mathlib.Core.Path.{◌≡◌, refl, subst}
use mathlib.Core.Bool.{Bool, true, false}
use mathlib.Core.Logic.{◌⊎◌, inl, inr}
use mathlib.Core.List.{List, [], ◌∷◌, ◌++◌}
use Prim.Native.Nat.{ℕ, ◌+◌, ◌*◌, ◌≤◌, ◌<◌}
use native.Mathlib.Nat.{mul-suc, mul-le-mul, mul-le-mul_left}
use native.Mathlib.Omega.{arith}
use lib.Dec.{eqb}
use lib.ListN.{length, take, get_or}
use Rattle.notices.specs.declared.Target.{Target}
use Rattle.notices.specs.declared.Target.TheVariants.{Links, Switch, Pattern}
use Rattle.actions.specs.Layout.{action_length, bytes_before, action_bytes, filing_of, filing}

-- "In every number of two bytes the high byte comes first.": a number of 16 bits from place i on
pub record Word (bytes : List ℕ) (i x : ℕ) : Type 0 where
  pub adds_up : get_or bytes i 0 * 256 + get_or bytes (i + 1) 0 ≡ x
  pub low_byte : get_or bytes (i + 1) 0 < 256

-- "the action in one byte, the number in two, the kind in one, the stage in one, the switch in two, the mask in two, the set in one", and "In version 2 it has
-- eleven, the class at the end"
pub record Laid (action number kind stage switch mask s class : ℕ) (bytes : List ℕ) : Type 0 where
  pub eleven : length bytes ≡ 11
  pub action_at : get_or bytes 0 0 ≡ action
  pub number_at : Word bytes 1 number
  pub kind_at : get_or bytes 3 0 ≡ kind
  pub stage_at : get_or bytes 4 0 ≡ stage
  pub switch_at : Word bytes 5 switch
  pub mask_at : Word bytes 7 mask
  pub set_at : get_or bytes 9 0 ≡ s
  pub class_at : get_or bytes 10 0 ≡ class

pub action_laid : (action number kind stage switch mask s class : ℕ)
    → Laid action number kind stage switch mask s class (action_bytes action number kind stage switch mask s class)
action_laid action number kind stage switch mask s class =
    record {
      eleven = refl;
      action_at = refl;
      number_at = record { adds_up = omega arith; low_byte = omega arith };
      kind_at = refl;
      stage_at = refl;
      switch_at = record { adds_up = omega arith; low_byte = omega arith };
      mask_at = record { adds_up = omega arith; low_byte = omega arith };
      set_at = refl;
      class_at = refl;
    }

-- "An action has ten bytes in version 1", "In version 2 it has eleven"; the longer one is that of an action's bytes
pub lengths_spelled : (action number kind stage switch mask s class : ℕ)
    → (action_length 1 ≡ 10) × (action_length 2 ≡ 11) × (length (action_bytes action number kind stage switch mask s class) ≡ action_length 2)
lengths_spelled action number kind stage switch mask s class = (refl, refl, refl)

-- whatever the version, there are ten or eleven
pub two_lengths : (version : ℕ) → (action_length version ≡ 10) ⊎ (action_length version ≡ 11)
two_lengths version = go (eqb version 2) refl
  where
    go : (b : Bool) → eqb version 2 ≡ b → (action_length version ≡ 10) ⊎ (action_length version ≡ 11)
    go true e = inr (rw e)
    go false e = inl (rw e)

-- "A sheet of version 1 is 8 + 10 x count bytes long", and with eleven bytes an action 8 + 11 x count
pub before_action : (k : ℕ) → (bytes_before (action_length 1) k ≡ 8 + 10 * k) × (bytes_before (action_length 2) k ≡ 8 + 11 * k)
before_action k = (refl, refl)

-- "Action 1 is a filing, and its kind is that of the target"; "In kind 1 the mask is 0"
pub links_laid : (k stage switch s class : ℕ) → Laid 1 k 1 stage switch 0 s class (filing (record { number = k; target = Links stage switch s; class = class }))
links_laid k stage switch s class = action_laid 1 k 1 stage switch 0 s class

-- "In kind 2 the column stands in the stage's byte, mask and set are 0"
pub switch_laid : (k column switch class : ℕ) → Laid 1 k 2 column switch 0 0 class (filing (record { number = k; target = Switch column switch; class = class }))
switch_laid k column switch class = action_laid 1 k 2 column switch 0 0 class

-- "In kind 3 the value stands where the switch does"
pub pattern_laid : (k stage value mask s class : ℕ)
    → Laid 1 k 3 stage value mask s class (filing (record { number = k; target = Pattern stage value mask s; class = class }))
pattern_laid k stage value mask s class = action_laid 1 k 3 stage value mask s class

-- three of the worked example, the second of them busy, and one whose numbers need both bytes
pub filings_spelt :
    filing (record { number = 7; target = Links 0 1 4; class = 0 })
    ∷ filing (record { number = 8; target = Pattern 0 1 3 4; class = 1 })
    ∷ filing (record { number = 10; target = Switch 1 2; class = 0 })
    ∷ filing (record { number = 258; target = Pattern 9 772 1286 7; class = 1 })
    ∷ []
    ≡ (1 ∷ 0 ∷ 7 ∷ 1 ∷ 0 ∷ 0 ∷ 1 ∷ 0 ∷ 0 ∷ 4 ∷ 0 ∷ [])
    ∷ (1 ∷ 0 ∷ 8 ∷ 3 ∷ 0 ∷ 0 ∷ 1 ∷ 0 ∷ 3 ∷ 4 ∷ 1 ∷ [])
    ∷ (1 ∷ 0 ∷ 10 ∷ 2 ∷ 1 ∷ 0 ∷ 2 ∷ 0 ∷ 0 ∷ 0 ∷ 0 ∷ [])
    ∷ (1 ∷ 1 ∷ 2 ∷ 3 ∷ 9 ∷ 3 ∷ 4 ∷ 5 ∷ 6 ∷ 7 ∷ 1 ∷ [])
    ∷ []
filings_spelt = refl

-- the bytes of so many actions, as many as a sheet can have: no sum of them leaves a machine's numbers
pub few_bytes : (each k : ℕ) → each ≤ 11 → k ≤ 4096 → each * k ≤ 45056
few_bytes each k short few = mul-le-mul short few

-- one action lies before where the next one starts, so an action that is there ends within the bytes of all
pub within_all : (each i count : ℕ) → i < count → each * i + each ≤ each * count
within_all each i count h = subst (λ (m : ℕ). m ≤ each * count) (mul-suc each i) (mul-le-mul_left each h)

-- the bytes of a filing are its first ten and its class
pub class_last : (k : ℕ) (t : Target) (class : ℕ) → filing_of k t class ≡ take 10 (filing_of k t class) ++ class ∷ []
class_last k (Links stage switch s) class = refl
class_last k (Switch column switch) class = refl
class_last k (Pattern stage value mask s) class = refl

-- "the number in two" lies in the first ten
pub number_in : (k : ℕ) (t : Target) (class each : ℕ) → (each ≡ 10) ⊎ (each ≡ 11) → Word (take each (filing_of k t class)) 1 k
number_in k (Links stage switch s) class each (inl e) = rw e (record { adds_up = omega arith; low_byte = omega arith })
number_in k (Links stage switch s) class each (inr e) = rw e (record { adds_up = omega arith; low_byte = omega arith })
number_in k (Switch column switch) class each (inl e) = rw e (record { adds_up = omega arith; low_byte = omega arith })
number_in k (Switch column switch) class each (inr e) = rw e (record { adds_up = omega arith; low_byte = omega arith })
number_in k (Pattern stage value mask s) class each (inl e) = rw e (record { adds_up = omega arith; low_byte = omega arith })
number_in k (Pattern stage value mask s) class each (inr e) = rw e (record { adds_up = omega arith; low_byte = omega arith })
