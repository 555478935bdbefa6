-- The states of steps as a number: its bit k is the state of step k.
use mathlib.Core.Path.{◌≡◌, sym, ap, subst, ◌∙◌}
use mathlib.Core.List.{List, [], ◌∷◌, ◌++◌}
use Prim.Native.Nat.{ℕ, zero, suc, ◌+◌, ◌*◌, ◌/◌, ◌%◌, ◌^◌, ◌≤◌, ◌<◌}
use native.Mathlib.Nat.{add-zero, zero-add, mul_assoc, mul_comm, pow-suc, div-one, mod-le}
use native.Mathlib.Numerals.{add-one}
use native.Mathlib.Omega.{arith}
use lib.ListN.{length, take, get_or}
use lib.Seq.{length-take-le, take-suc}
use lib.Pow.{shr-shr, shl_lt, pow_mono}
use Rattle.fabric.specs.Labels.{size, bit}
use Rattle.fabric.specs.Links.{lands}
use Rattle.fabric.specs.Walks.{walked, switch_at}
use Rattle.scheme.specs.Scheme.{state_for}
use Rattle.scheme.specs.Tags.{states_of}
use Rattle.scheme.proofs.Table.{state_for_lt}

module _ (n : ℕ) where
  pub states_lt : (i j : ℕ) (cs : List ℕ) → states_of n i j cs < 2 ^ length cs
  unfolding states_of
  states_lt i j [] = omega arith
  states_lt i j (c ∷ cs) =
      let h = state_for_lt (bit i j) c in
      let l = states_lt (suc i) (lands n i c j) cs in
      let p = pow-suc 2 (length cs) in
      omega arith

  pub states_on : (i j : ℕ) (xs ys : List ℕ) → states_of n i j (xs ++ ys) ≡ states_of n i j xs + 2 ^ length xs * states_of n (i + length xs) (walked n i j xs) ys
  unfolding states_of walked
  states_on i j [] ys = ap (λ (m : ℕ). states_of n m j ys) (sym (add-zero i)) ∙ omega arith
  states_on i j (x ∷ xs) ys =
      let r : ℕ = states_of n (suc i + length xs) (walked n (suc i) (lands n i x j) xs) ys in
      let e : suc i + length xs ≡ i + suc (length xs) = omega arith in
      let ih = states_on (suc i) (lands n i x j) xs ys in
      let p : 2 ^ suc (length xs) * r ≡ 2 * (2 ^ length xs * r) = ap (λ (m : ℕ). m * r) (pow-suc 2 (length xs) ∙ mul_comm (2 ^ length xs) 2) ∙ mul_assoc 2 (2 ^ length xs) r in
      rw (← e) (omega arith)

  pub states_small : (s : ℕ) (cs : List ℕ) (k : ℕ) → k ≤ length cs → states_of n 0 s (take k cs) < 2 ^ k
  states_small s cs k h = subst (λ (m : ℕ). states_of n 0 s (take k cs) < 2 ^ m) (length-take-le k cs h) (states_lt 0 s (take k cs))

  -- one step more
  pub states_next : (s : ℕ) (cs : List ℕ) (k : ℕ) → k < length cs →
      states_of n 0 s (take (k + 1) cs) ≡ states_of n 0 s (take k cs) + state_for (bit k (switch_at n s cs k)) (get_or cs k 0) * 2 ^ k
  unfolding states_of
  states_next s cs k h =
      let l : length (take k cs) ≡ k = length-take-le k cs (omega arith) in
      let st : ℕ = state_for (bit k (switch_at n s cs k)) (get_or cs k 0) in
      ap (λ (m : ℕ). states_of n 0 s (take m cs)) (add-one k)
      ∙ ap (states_of n 0 s) (take-suc cs k 0 h)
      ∙ states_on 0 s (take k cs) (get_or cs k 0 ∷ [])
      ∙ ap (λ (m : ℕ). states_of n 0 s (take k cs) + 2 ^ m * (state_for (bit (0 + m) (switch_at n s cs k)) (get_or cs k 0) + 2 * 0)) l
      ∙ ap (λ (m : ℕ). states_of n 0 s (take k cs) + 2 ^ k * (state_for (bit m (switch_at n s cs k)) (get_or cs k 0) + 2 * 0)) (zero-add k)
      ∙ ap (λ (m : ℕ). states_of n 0 s (take k cs) + m) (ap (λ (m : ℕ). 2 ^ k * m) {x = st + 2 * 0} {y = st} (omega arith) ∙ mul_comm (2 ^ k) st)

  -- bit k is the state of step k
  pub states_bit : (i j : ℕ) (cs : List ℕ) (k : ℕ) → k < length cs → bit k (states_of n i j cs) ≡ state_for (bit (i + k) (walked n i j (take k cs))) (get_or cs k 0)
  unfolding states_of walked
  states_bit i j [] k h = absurd (omega arith)
  states_bit i j (c ∷ cs) zero h =
      let l = state_for_lt (bit i j) c in
      ap (λ (m : ℕ). m % 2) (div-one (state_for (bit i j) c + 2 * states_of n (suc i) (lands n i c j) cs))
      ∙ omega arith
      ∙ ap (λ (m : ℕ). state_for (bit m j) c) (sym (add-zero i))
  states_bit i j (c ∷ cs) (suc k) h =
      let l = state_for_lt (bit i j) c in
      let x : ℕ = states_of n (suc i) (lands n i c j) cs in
      let y : ℕ = state_for (bit i j) c + 2 * x in
      let m : 1 + k ≡ suc k = omega arith in
      let e : y / 2 ^ suc k ≡ y / 2 / 2 ^ k = sym (shr-shr y 1 k ∙ ap (λ (p : ℕ). y / 2 ^ p) m) in
      let f : y / 2 ≡ x = omega arith in
      ap (λ (p : ℕ). p % 2) (e ∙ ap (λ (p : ℕ). p / 2 ^ k) f)
      ∙ states_bit (suc i) (lands n i c j) cs k (omega arith)
      ∙ ap (λ (p : ℕ). state_for (bit p (walked n (suc i) (lands n i c j) (take k cs))) (get_or cs k 0)) {x = suc i + k} {y = i + suc k} (omega arith)

-- a destination and states below it fit 32 bits
pub tag_fits : (n destination states : ℕ) → n ≤ 12 → destination < size n → states < size n → destination + states * 2 ^ n % 2 ^ 32 < 2 ^ 32
tag_fits n destination states h hd hs =
    let p : 2 ^ (n + n) ≤ 2 ^ 24 = pow_mono {i = n + n} {j = 24} (omega arith) in
    let q : 2 ^ n ≤ 2 ^ 12 = pow_mono {j = 12} h in
    let l : states * 2 ^ n < 2 ^ (n + n) = shl_lt n n hs in
    let m = mod-le (states * 2 ^ n) (2 ^ 32) in
    omega arith
