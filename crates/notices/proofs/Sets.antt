-- "The set is a sum, of 1 for straight, 2 for plus and 4 for minus, and lies between 1 and 7": which codes each of the seven sets has.
use mathlib.Core.Path.{◌≡◌, refl}
use mathlib.Core.Bool.{Bool, true, false, cond}
use mathlib.Core.List.{List, [], ◌∷◌}
use Prim.Native.Nat.{ℕ, ◌+◌}
use Rattle.notices.specs.Targets.{set_has}

-- whether a set has straight, plus and minus
abbrev pub codes_of : ℕ → List Bool
codes_of s = set_has s 0 ∷ set_has s 1 ∷ set_has s 2 ∷ []

-- what its codes give, added
abbrev pub sum_of : ℕ → ℕ
sum_of s = cond (set_has s 0) 1 0 + cond (set_has s 1) 2 0 + cond (set_has s 2) 4 0

-- the seven sets: straight; plus; both; minus; straight and minus; plus and minus; all three
pub seven_sets :
    codes_of 1 ∷ codes_of 2 ∷ codes_of 3 ∷ codes_of 4 ∷ codes_of 5 ∷ codes_of 6 ∷ codes_of 7 ∷ []
    ≡ (true ∷ false ∷ false ∷ [])
    ∷ (false ∷ true ∷ false ∷ [])
    ∷ (true ∷ true ∷ false ∷ [])
    ∷ (false ∷ false ∷ true ∷ [])
    ∷ (true ∷ false ∷ true ∷ [])
    ∷ (false ∷ true ∷ true ∷ [])
    ∷ (true ∷ true ∷ true ∷ [])
    ∷ []
seven_sets = refl

-- each is what its codes give, added
pub sets_add_up : sum_of 1 ∷ sum_of 2 ∷ sum_of 3 ∷ sum_of 4 ∷ sum_of 5 ∷ sum_of 6 ∷ sum_of 7 ∷ [] ≡ 1 ∷ 2 ∷ 3 ∷ 4 ∷ 5 ∷ 6 ∷ 7 ∷ []
sets_add_up = refl
