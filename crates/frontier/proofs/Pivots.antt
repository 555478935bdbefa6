-- The two switches of a column that lie on ways from s to d, and where their links lead.
use Rattle.std.proofs.Common.{◌≡◌, ℕ, zero, suc, ◌+◌, ◌-◌, ◌%◌, ◌^◌, ◌<◌, ◌≤◌, true, false, cond, sym, ap, ◌∙◌, pow-suc, arith, pow_mono, eq-eqb, ne_eqb, eqb-true}
use native.Mathlib.Nat.{mod-add-mod, add-mod_right}
use native.Mathlib.Decide.{ℕ_discrete}
use borrow.Author.Tests.{eqb-false}
use Rattle.fabric.specs.Labels.{size, bit, Agree}
use Rattle.fabric.specs.Links.{lands}
use Rattle.fabric.proofs.Bits.{bit_lt}
use Rattle.fabric.proofs.Links.{lands_lt, minus_then_plus, low_bits_stay, nonstraight_bit, straight_toward, nonstraight_toward}
use Rattle.frontier.specs.Columns.{high, low, high_right}

-- minus twice at one stage is minus at the next; plus at one stage and minus at the next is minus
module _ (n i j : ℕ) (inside : i < n) (label : j < size n) where
  whole : (size n - 2 ^ suc i) + 2 ^ suc i ≡ size n
  whole = let l : 2 ^ suc i ≤ 2 ^ n = pow_mono inside in omega arith

  pub minus_minus : lands n i 2 (lands n i 2 j) ≡ lands n (suc i) 2 j
  minus_minus =
      let w = whole in
      let d = pow-suc 2 i in
      mod-add-mod (j + (size n - 2 ^ i)) (size n) (size n - 2 ^ i)
      ∙ ap (λ (x : ℕ). x % size n) {x = j + (size n - 2 ^ i) + (size n - 2 ^ i)} {y = j + (size n - 2 ^ suc i) + size n} (omega arith)
      ∙ add-mod_right (j + (size n - 2 ^ suc i)) (size n)

  pub plus_minus : lands n (suc i) 2 (lands n i 1 j) ≡ lands n i 2 j
  plus_minus =
      let w = whole in
      let d = pow-suc 2 i in
      mod-add-mod (j + 2 ^ i) (size n) (size n - 2 ^ suc i)
      ∙ ap (λ (x : ℕ). x % size n) {x = j + 2 ^ i + (size n - 2 ^ suc i)} {y = j + (size n - 2 ^ i)} (omega arith)

module _ (n s d : ℕ) (source : s < size n) where
  pub high_lt : (i : ℕ) → high n s d i < size n
  unfolding high
  high_lt zero = source
  high_lt (suc i) = lands_lt n i (cond (high_right n s d i) 0 1) (high n s d i) (high_lt i)

  pub high_agrees : (i : ℕ) → i ≤ n → Agree i (high n s d i) d
  unfolding high
  high_agrees zero h = omega arith
  high_agrees (suc i) h = go (high_agrees i (omega arith)) (ℕ_discrete (bit i (high n s d i)) (bit i d))
    where
      go : Agree i (high n s d i) d → Dec (bit i (high n s d i) ≡ bit i d) → Agree (suc i) (lands n i (cond (high_right n s d i) 0 1) (high n s d i)) d
      go a (yes e) = rw (eq-eqb _ _ e) (straight_toward n i h (high n s d i) d a e)
      go a (no e) = rw (ne_eqb _ _ e) (nonstraight_toward n i h 1 (high n s d i) d (omega arith) a e)

  pub low_agrees : (i : ℕ) → i < n → Agree i (low n s d i) d
  low_agrees i h = low_bits_stay n i h 2 (high n s d i) ∙ high_agrees i (omega arith)

  pub low_bit : (i : ℕ) → i < n → bit i (low n s d i) ≡ 1 - bit i (high n s d i)
  low_bit i h = nonstraight_bit n i h 2 (high n s d i) (omega arith)

  -- where the high one's bit is right it goes straight, and the low one forks
  module _ (i : ℕ) (inside : i < n) (right : high_right n s d i ≡ true) where
    pub high_straight : lands n i 0 (high n s d i) ≡ high n s d (suc i)
    unfolding high
    high_straight = rw right

    pub low_plus : lands n i 1 (low n s d i) ≡ high n s d (suc i)
    unfolding high
    low_plus = rw right (minus_then_plus n i inside (high n s d i) (high_lt i))

    pub low_minus : lands n i 2 (low n s d i) ≡ low n s d (suc i)
    unfolding high
    low_minus = rw right (minus_minus n i (high n s d i) inside (high_lt i))

    pub high_bit_right : bit i (high n s d i) ≡ bit i d
    high_bit_right = eqb-true _ _ right

    pub low_bit_wrong : bit i (low n s d i) ≡ 1 - bit i d
    low_bit_wrong = low_bit i inside ∙ ap (λ (x : ℕ). 1 - x) high_bit_right

  -- where it is wrong the low one goes straight, and the high one forks
  module _ (i : ℕ) (inside : i < n) (wrong : high_right n s d i ≡ false) where
    pub high_plus : lands n i 1 (high n s d i) ≡ high n s d (suc i)
    unfolding high
    high_plus = rw wrong

    pub high_minus : lands n i 2 (high n s d i) ≡ low n s d (suc i)
    unfolding high
    high_minus = rw wrong (sym (plus_minus n i (high n s d i) inside (high_lt i)))

    pub low_straight : lands n i 0 (low n s d i) ≡ low n s d (suc i)
    low_straight = high_minus

    pub high_bit_wrong : bit i (high n s d i) ≡ 1 - bit i d
    high_bit_wrong =
        let e : (bit i (high n s d i) ≡ bit i d → ⊥) = eqb-false _ _ wrong in
        let a = bit_lt i (high n s d i) in
        let b = bit_lt i d in
        omega arith

    pub low_bit_right : bit i (low n s d i) ≡ bit i d
    low_bit_right = let e = low_bit i inside in let f = high_bit_wrong in let b = bit_lt i d in omega arith
