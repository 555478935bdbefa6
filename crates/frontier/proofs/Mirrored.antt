-- A tag has a path's states with that of stage 0 lowest, a key has it highest: the one is the other, mirrored.
use Rattle.std.proofs.Common.{◌≡◌, ℕ, zero, suc, ◌+◌, ◌*◌, ◌%◌, ◌^◌, ◌<◌, ◌≤◌, List, [], ◌∷◌, length, refl, ap, ◌∙◌, ap₂, mod-eq_of_lt, pow-suc, pow_mono, add-one, arith}
use native.Mathlib.Nat.{mul-add-mod_self_right}
use lib.Pow.{high}
use Rattle.fabric.specs.Labels.{bit, Agree}
use Rattle.fabric.specs.Links.{lands}
use Rattle.fabric.proofs.Bits.{bit_lt, agree_less, agree_bit}
use Rattle.scheme.specs.Scheme.{state_for}
use Rattle.scheme.specs.Tags.{states_of}
use Rattle.scheme.proofs.Table.{state_for_lt}
use Rattle.frontier.proofs.Places.{few_labels, min_lesser}
use Rattle.paths.proofs.Keys.{key_of, key_lt}
use Rattle.frontier.specs.Frontier.{mirrored}

-- only the low bits are mirrored, and they fill as many
mirrored_low : (m x y : ℕ) → Agree m x y → mirrored m x ≡ mirrored m y
unfolding mirrored
mirrored_low zero x y e = refl
mirrored_low (suc m) x y e = ap₂ (λ (a b : ℕ). a * 2 + b) (mirrored_low m x y (agree_less m (suc m) x y (omega arith) e)) (agree_bit m (suc m) x y (omega arith) e)

pub mirrored_lt : (m x : ℕ) → mirrored m x < 2 ^ m
unfolding mirrored
mirrored_lt zero x = omega arith
mirrored_lt (suc m) x = let l = mirrored_lt m x in let b = bit_lt m x in let d = pow-suc 2 m in omega arith

-- the states of fewer than 12 stages leave room for one more
pub few_states : (i walk : ℕ) {states : ℕ} → i < 12 → states ≡ mirrored i walk → states * 2 < 4096
few_states i walk h e = let m : 2 ^ i ≤ 2048 = pow_mono {j = 11} (omega arith) in let l = mirrored_lt i walk in omega arith

-- one state more
pub mirrored_more : (i walk : ℕ) → mirrored (i + 1) walk ≡ mirrored i walk * 2 + bit i walk
unfolding mirrored
mirrored_more i walk = ap (λ (k : ℕ). mirrored k walk) (add-one i)

-- what reading the states off a walk's number takes
pub ruleset states_read = (few_labels, min_lesser, few_states, mirrored_lt, mirrored_more)

-- a tag has the states in the other order
pub key_mirrored : (n i j : ℕ) (cs : List ℕ) → mirrored (length cs) (key_of n i j cs) ≡ states_of n i j cs
unfolding key_of states_of mirrored
key_mirrored n i j [] = refl
key_mirrored n i j (c ∷ cs) =
    let m : ℕ = length cs in
    let st : ℕ = state_for (bit i j) c in
    let k : ℕ = key_of n (suc i) (lands n i c j) cs in
    let ih = key_mirrored n (suc i) (lands n i c j) cs in
    let low = mirrored_low m (st * 2 ^ m + k) k (mul-add-mod_self_right st (2 ^ m) k) in
    let top : bit m (st * 2 ^ m + k) ≡ st = ap (λ (x : ℕ). x % 2) (high st m (key_lt n (suc i) (lands n i c j) cs)) ∙ mod-eq_of_lt (state_for_lt (bit i j) c) in
    omega arith
