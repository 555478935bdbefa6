-- Sizes: which are outside, how many labels each has, and what one that is let through is known to be.
use Rattle.std.proofs.Common.{◌≡◌, ℕ, ◌<◌, ◌≤◌, Bool, true, false, ◌||◌, ◌⊎◌, ◌↔◌, [], ◌∷◌, refl, inl, inr, ⊎_elim, arith, ltb-false, ltb-true, le-ltb, lt-ltb}
use Rattle.table.specs.Checks.{◌below◌}
use Rattle.table.proofs.Checks.{neither, one_of, other_of, by_test, is_below, below_fails}
use Rattle.fabric.specs.Labels.{outside_sizes, size}

-- "n is 0 or above 12"
pub outside_exactly : (n : ℕ) → (outside_sizes n ≡ true) ↔ ((n < 1) ⊎ (12 < n))
outside_exactly n = (
  told (n below 1) refl,
  ⊎_elim (λ l. one_of (n below 1) (12 below n) (lt-ltb n 1 l)) (λ l. other_of (n below 1) (12 below n) (le-ltb n 1 (omega arith)) (lt-ltb 12 n l)),
)
  where
    told : (b : Bool) → (n below 1) ≡ b → (b || (12 below n)) ≡ true → (n < 1) ⊎ (12 < n)
    told true e h = inl (ltb-true n 1 e)
    told false e h = inr (ltb-true 12 n h)

-- "Its size N is 2^n", for 1 to 12 stages
pub sizes_in_order :
    size 1 ∷ size 2 ∷ size 3 ∷ size 4 ∷ size 5 ∷ size 6 ∷ size 7 ∷ size 8 ∷ size 9 ∷ size 10 ∷ size 11 ∷ size 12 ∷ []
    ≡ 2 ∷ 4 ∷ 8 ∷ 16 ∷ 32 ∷ 64 ∷ 128 ∷ 256 ∷ 512 ∷ 1024 ∷ 2048 ∷ 4096 ∷ []
sizes_in_order = refl

pub some_stages : {made : Bool} {n : ℕ} → made ≡ outside_sizes n → made ≡ false → 1 ≤ n
some_stages {made} {n} e v = ltb-false n 1 (neither (n below 1) (12 below n) (by_test e v)).0

pub few_stages : {made : Bool} {n : ℕ} → made ≡ outside_sizes n → made ≡ false → n ≤ 12
few_stages {made} {n} e v = ltb-false 12 n (neither (n below 1) (12 below n) (by_test e v)).1

-- what the checks that a call has passed say of its arguments
pub ruleset bounds = (few_stages, some_stages, is_below, below_fails)
