-- The high switch of a column without those before it: it lies above the source by what the distance has in its low bits, and
-- its bit is right exactly where the distance has no bit.
use Rattle.std.proofs.Common.{◌≡◌, ℕ, zero, suc, ◌+◌, ◌-◌, ◌*◌, ◌%◌, ◌^◌, ◌<◌, ◌≤◌, Bool, true, false, cond, not, eqb, sym, refl, ap, ◌∙◌, ap₂, mod-lt, mod-eq_of_lt, arith, pow_pos, eq-eqb, ne_eqb}
use native.Mathlib.Nat.{mod-add-mod, add-mod-mod}
use native.Mathlib.Decide.{ℕ_discrete, dec_lt}
use Rattle.fabric.specs.Labels.{size, bit, Agree}
use Rattle.fabric.specs.Links.{lands}
use Rattle.fabric.proofs.Bits.{bit_lt, low_of_low, low_more, agree_bit}
use Rattle.fabric.proofs.Links.{nonstraight_bit}
use Rattle.frontier.specs.Columns.{Distance, high, low, high_right, straight_at, fork_at, IsColumn}
use Rattle.frontier.proofs.Pivots.{high_lt, high_straight, high_plus}

module _ (n s d a : ℕ) (few : n ≤ 12) (source : s < size n) (distance : Distance s d a) where
  abbrev pub above : ℕ → ℕ
  above i = (s + a % 2 ^ i) % 2 ^ n

  above_agrees : (i : ℕ) → i ≤ n → Agree i (above i) d
  above_agrees i h =
      let e : (s + a) % 2 ^ 16 ≡ d = ap (λ (x : ℕ). x % 65536) {x = s + a} {y = a + s} (omega arith) ∙ distance in
      low_of_low i n (s + a % 2 ^ i) h ∙ add-mod-mod s a (2 ^ i) ∙ sym (low_of_low i 16 (s + a) (omega arith)) ∙ ap (λ (x : ℕ). x % 2 ^ i) e

  above_same : (i : ℕ) → bit i a ≡ 0 → above (suc i) ≡ above i
  above_same i z = ap (λ (x : ℕ). (s + x) % 2 ^ n) (low_more i a ∙ ap (λ (b : ℕ). b * 2 ^ i + a % 2 ^ i) z ∙ omega arith)

  above_plus : (i : ℕ) → bit i a ≡ 1 → above (suc i) ≡ lands n i 1 (above i)
  above_plus i z =
      ap (λ (x : ℕ). (s + x) % 2 ^ n) (low_more i a ∙ ap (λ (b : ℕ). b * 2 ^ i + a % 2 ^ i) z)
      ∙ ap (λ (x : ℕ). x % 2 ^ n) {x = s + (1 * 2 ^ i + a % 2 ^ i)} {y = s + a % 2 ^ i + 2 ^ i} (omega arith)
      ∙ sym (mod-add-mod (s + a % 2 ^ i) (2 ^ n) (2 ^ i))

  module _ (i : ℕ) (inside : i < n) (here : high n s d i ≡ above i) where
    next_bit : bit i (above (suc i)) ≡ bit i d
    next_bit = agree_bit i (suc i) (above (suc i)) d (omega arith) (above_agrees (suc i) inside)

    rises : (high n s d (suc i) ≡ above (suc i)) × (high_right n s d i ≡ eqb (bit i a) 0)
    rises = go (ℕ_discrete (bit i a) 0)
      where
        go : Dec (bit i a ≡ 0) → (high n s d (suc i) ≡ above (suc i)) × (high_right n s d i ≡ eqb (bit i a) 0)
        go (yes z) =
            let same : high n s d i ≡ above (suc i) = here ∙ sym (above_same i z) in
            let right : high_right n s d i ≡ true = eq-eqb (bit i (high n s d i)) (bit i d) (ap (bit i) same ∙ next_bit) in
            (sym (high_straight n s d source i inside right) ∙ same, right ∙ sym (eq-eqb (bit i a) 0 z))
        go (no z) =
            let b = bit_lt i a in
            let up : above (suc i) ≡ lands n i 1 (high n s d i) = above_plus i (omega arith) ∙ ap (lands n i 1) (sym here) in
            let turns : bit i d ≡ 1 - bit i (high n s d i) = sym next_bit ∙ ap (bit i) up ∙ nonstraight_bit n i inside 1 (high n s d i) (omega arith) in
            let k = bit_lt i (high n s d i) in
            let wrong : high_right n s d i ≡ false = ne_eqb (bit i (high n s d i)) (bit i d) (λ e. omega arith) in
            (sym (high_plus n s d source i inside wrong) ∙ sym up, wrong ∙ sym (ne_eqb (bit i a) 0 z))

  pub high_above : (i : ℕ) → i ≤ n → high n s d i ≡ above i
  unfolding high
  high_above zero h =
      let e : s + a % 2 ^ 0 ≡ s = omega arith in
      sym (ap (λ (x : ℕ). x % 2 ^ n) e ∙ mod-eq_of_lt source)
  high_above (suc i) h = (rises i h (high_above i (omega arith))).0

  pub right_where : (i : ℕ) → i < n → high_right n s d i ≡ eqb (bit i a) 0
  right_where i h = (rises i h (high_above i (omega arith))).1

  -- in the last column the two are one
  one_last : (x : ℕ) → x < size n → (b : Bool) → cond b x (lands n n 2 x) ≡ x
  one_last x h true = refl
  one_last x h false = ap (λ (y : ℕ). y % size n) {x = x + (size n - 2 ^ n)} {y = x} (omega arith) ∙ mod-eq_of_lt h

  last_same : (i : ℕ) → i ≡ n → (b c : Bool) → cond b (high n s d i) (low n s d i) ≡ cond c (above i) (lands n i 2 (above i))
  last_same i e b c =
      rw e (one_last (high n s d n) (high_lt n s d source n) b ∙ high_above n (omega arith) ∙ sym (one_last (above n) (mod-lt _ (pow_pos n)) c))

  -- the switch that goes straight, and the one that forks
  pub straight_where : (i : ℕ) → i ≤ n → straight_at n s d i ≡ cond (eqb (bit i a) 0) (above i) (lands n i 2 (above i))
  straight_where i h = go (dec_lt i n)
    where
      go : Dec (i < n) → straight_at n s d i ≡ cond (eqb (bit i a) 0) (above i) (lands n i 2 (above i))
      go (yes l) = ap₂ (λ (b : Bool) (x : ℕ). cond b x (lands n i 2 x)) (right_where i l) (high_above i (omega arith))
      go (no l) = last_same i (omega arith) (high_right n s d i) (eqb (bit i a) 0)

  pub fork_where : (i : ℕ) → i ≤ n → fork_at n s d i ≡ cond (not (eqb (bit i a) 0)) (above i) (lands n i 2 (above i))
  fork_where i h = sym (turned (high_right n s d i)) ∙ go (dec_lt i n)
    where
      turned : (b : Bool) → cond (not b) (high n s d i) (low n s d i) ≡ cond b (low n s d i) (high n s d i)
      turned true = refl
      turned false = refl

      go : Dec (i < n) → cond (not (high_right n s d i)) (high n s d i) (low n s d i) ≡ cond (not (eqb (bit i a) 0)) (above i) (lands n i 2 (above i))
      go (yes l) = ap₂ (λ (b : Bool) (x : ℕ). cond (not b) x (lands n i 2 x)) (right_where i l) (high_above i (omega arith))
      go (no l) = last_same i (omega arith) (not (high_right n s d i)) (not (eqb (bit i a) 0))

  -- so a column from its high switch: where that one's bit is right, and where it is not
  module _ (i : ℕ) (inside : i ≤ n) {b h l : ℕ} (bit_there : b ≡ bit i a) (eh : h ≡ above i) (el : l ≡ lands n i 2 h) where
    pub right_column : b ≡ 0 → IsColumn n s d i (record { straight = h; fork = l })
    right_column z =
        let e : eqb (bit i a) 0 ≡ true = eq-eqb (bit i a) 0 (sym bit_there ∙ z) in
        record {
          straight = sym (straight_where i inside ∙ rw (e, ← eh));
          fork = sym (fork_where i inside ∙ rw (e, ← eh, ← el));
        }

    pub wrong_column : (b ≡ 0 → ⊥) → IsColumn n s d i (record { straight = l; fork = h })
    wrong_column z =
        let e : eqb (bit i a) 0 ≡ false = ne_eqb (bit i a) 0 (λ y. z (bit_there ∙ y)) in
        record {
          straight = sym (straight_where i inside ∙ rw (e, ← eh, ← el));
          fork = sym (fork_where i inside ∙ rw (e, ← eh));
        }
