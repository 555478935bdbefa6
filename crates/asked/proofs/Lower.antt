-- What a pass from the last notice to the first holds.
use mathlib.Core.Path.{◌≡◌, refl, sym, ap, ◌∙◌}
use mathlib.Core.Bool.{Bool, true, false, cond}
use mathlib.Core.List.{List, [], ◌∷◌}
use mathlib.Core.Logic.{◌⊎◌, inl, inr, ◌↔◌}
use Prim.Native.Nat.{ℕ, ◌≤◌, ◌<◌}
use native.Mathlib.Decide.{dec_lt}
use native.Mathlib.Omega.{arith}
use Rattle.std.specs.Prelude.{Option, Some, None, min, find, option_map, unwrap_or}
use Rattle.std.proofs.Math.Nat.{min-eq_left, min_comm}
use Rattle.table.proofs.Checks.{zero_one}
use Rattle.notices.specs.declared.Notice.{Notice}
use Rattle.standing.specs.Picked.{lowest}
use Rattle.standing.specs.Rising.{Filed}
use Rattle.questions.specs.Entries.{number_or_none}
use Rattle.questions.proofs.Testing.{number_is}
use Rattle.asked.specs.Lower.{lower, first_number}

min_right : (k number : ℕ) → number ≤ k → min k number ≡ number
min_right k number h = min_comm k number ∙ min-eq_left h

-- the next number where none was found; otherwise one of the two that is above neither
pub lower_exactly : (found : Option ℕ) (number r : ℕ)
    → (r ≡ lower found number) ↔ (((found ≡ None) × (r ≡ number)) ⊎ ((k : ℕ) × (found ≡ Some k) × (r ≤ k) × (r ≤ number) × ((r ≡ k) ⊎ (r ≡ number))))
lower_exactly None number r = ((λ e. inl (refl, e)), none_back)
  where
    none_back : (◌≡◌ {A = Option ℕ} None None × (r ≡ number)) ⊎ ((k : ℕ) × (None ≡ Some k) × (r ≤ k) × (r ≤ number) × ((r ≡ k) ⊎ (r ≡ number))) → r ≡ number
    none_back (inl v) = v.1
    none_back (inr v) = let e = v.1 in absurd (zero_one cc)
lower_exactly (Some found) number r = (told (dec_lt found number), back)
  where
    told : Dec (found < number) → r ≡ min found number
        → ((Some found ≡ None) × (r ≡ number)) ⊎ ((k : ℕ) × (Some found ≡ Some k) × (r ≤ k) × (r ≤ number) × ((r ≡ k) ⊎ (r ≡ number)))
    told (yes h) e = let f : r ≡ found = e ∙ min-eq_left (omega arith) in inr (found, refl, omega arith, omega arith, inl f)
    told (no h) e = let f : r ≡ number = e ∙ min_right found number (omega arith) in inr (found, refl, omega arith, omega arith, inr f)

    of : (k : ℕ) → found ≡ k → (r ≤ k) × (r ≤ number) → (r ≡ k) ⊎ (r ≡ number) → r ≡ min found number
    of k e w (inl f) = let l = w.1 in f ∙ sym (ap (λ (m : ℕ). min m number) e ∙ min-eq_left (omega arith))
    of k e w (inr f) = let l = w.0 in f ∙ sym (ap (λ (m : ℕ). min m number) e ∙ min_right k number (omega arith))

    back : ((Some found ≡ None) × (r ≡ number)) ⊎ ((k : ℕ) × (Some found ≡ Some k) × (r ≤ k) × (r ≤ number) × ((r ≡ k) ⊎ (r ≡ number))) → r ≡ min found number
    back (inl v) = let e = v.0 in absurd (zero_one cc)
    back (inr v) = let e = v.1 in let same : found ≡ v.0 = cc in of v.0 same (v.2, v.3) v.4

-- a number below all of a list of notices by rising number is lower than any that a test picks of them
pub lower_first : (test bad : Notice → Bool) (k m : ℕ) (l : List Notice) → m ≤ k → Filed bad k l → lower (first_number test l) m ≡ m
unfolding Filed
lower_first test bad k m [] h f = refl
lower_first test bad k m (y ∷ ys) h f = go (test y) (lower_first test bad y.number m ys (let g = f.0 in omega arith) f.2)
  where
    go : (b : Bool) → lower (first_number test ys) m ≡ m → lower (option_map (λ x. x.number) (cond b (Some y) (find test ys))) m ≡ m
    go true e = let g = f.0 in min_right y.number m (omega arith)
    go false e = e

-- among notices by rising number, none of which has number 0, the first that a test picks has the lowest number of one
pub first_is_lowest : (test bad : Notice → Bool) (k : ℕ) (l : List Notice) → Filed bad k l → first_number test l ≡ number_or_none (lowest test l)
unfolding Filed
first_is_lowest test bad k [] f = refl
first_is_lowest test bad k (y ∷ ys) f = go (test y) (first_is_lowest test bad y.number ys f.2)
  where
    first : Bool → Option ℕ
    first b = option_map (λ (x : Notice). x.number) (cond b (Some y) (find test ys))

    go : (b : Bool) → first_number test ys ≡ number_or_none (lowest test ys) → first b ≡ number_or_none (unwrap_or (first b) 0)
    go true e = let g = f.0 in sym (number_is y.number (λ z. omega arith))
    go false e = e
