-- The states of steps as a number whose highest bit is the state of stage 0: the order of these numbers is the order of
-- paths.
use mathlib.Core.Path.{◌≡◌, sym, ap, ap₂, ◌∙◌}
use mathlib.Core.List.{List, [], ◌∷◌, ◌++◌}
use Prim.Native.Nat.{ℕ, zero, suc, ◌+◌, ◌*◌, ◌^◌, ◌<◌}
use native.Mathlib.Nat.{add-zero, zero-add, mul_assoc, add-mul, pow-suc}
use native.Mathlib.Omega.{arith}
use lib.ListN.{length, length-append}
use lib.Pow.{pow-add}
use Rattle.fabric.specs.Labels.{bit}
use Rattle.fabric.specs.Links.{lands}
use Rattle.fabric.specs.Walks.{walked}
use Rattle.scheme.specs.Scheme.{state_for}
use Rattle.scheme.proofs.Table.{state_for_lt}

unfoldable pub key_of : ℕ → ℕ → ℕ → List ℕ → ℕ
key_of n i j [] = 0
key_of n i j (c ∷ cs) = state_for (bit i j) c * 2 ^ length cs + key_of n (suc i) (lands n i c j) cs

-- a state fills one bit
bit_room : (b p x : ℕ) → b < 2 → x < p → b * p + x < p * 2
bit_room zero p x h l = omega arith
bit_room (suc zero) p x h l = omega arith
bit_room (suc (suc b)) p x h l = absurd (omega arith)

module _ (n : ℕ) where
  pub key_lt : (i j : ℕ) (cs : List ℕ) → key_of n i j cs < 2 ^ length cs
  unfolding key_of
  key_lt i j [] = omega arith
  key_lt i j (c ∷ cs) =
      rw (pow-suc 2 (length cs))
      (bit_room (state_for (bit i j) c) (2 ^ length cs) (key_of n (suc i) (lands n i c j) cs) (state_for_lt (bit i j) c) (key_lt (suc i) (lands n i c j) cs))

  pub key_on : (i j : ℕ) (xs ys : List ℕ) → key_of n i j (xs ++ ys) ≡ key_of n i j xs * 2 ^ length ys + key_of n (i + length xs) (walked n i j xs) ys
  unfolding key_of walked
  key_on i j [] ys = ap (λ (m : ℕ). key_of n m j ys) (sym (add-zero i)) ∙ omega arith
  key_on i j (x ∷ xs) ys =
      let st : ℕ = state_for (bit i j) x in
      let p : ℕ = 2 ^ length xs in
      let q : ℕ = 2 ^ length ys in
      let k : ℕ = key_of n (suc i) (lands n i x j) xs in
      let r : ℕ = key_of n (i + suc (length xs)) (walked n (suc i) (lands n i x j) xs) ys in
      let e : 2 ^ length (xs ++ ys) ≡ p * q = ap (λ (m : ℕ). 2 ^ m) (length-append xs ys) ∙ pow-add 2 (length xs) (length ys) in
      let m : suc i + length xs ≡ i + suc (length xs) = omega arith in
      let ih : key_of n (suc i) (lands n i x j) (xs ++ ys) ≡ k * q + r =
      key_on (suc i) (lands n i x j) xs ys ∙ ap (λ (t : ℕ). k * q + key_of n t (walked n (suc i) (lands n i x j) xs) ys) m in
      let d : (st * p + k) * q ≡ st * (p * q) + k * q = add-mul (st * p) k q ∙ ap (λ (t : ℕ). t + k * q) (mul_assoc st p q) in
      ap₂ (λ (a b : ℕ). st * a + b) e ih ∙ omega arith

  -- one step more
  pub key_next : (s : ℕ) (cs : List ℕ) (c : ℕ) → key_of n 0 s (cs ++ (c ∷ [])) ≡ key_of n 0 s cs * 2 + state_for (bit (length cs) (walked n 0 s cs)) c
  unfolding key_of
  key_next s cs c =
      key_on 0 s cs (c ∷ [])
      ∙ ap (λ (m : ℕ). key_of n 0 s cs * 2 + (state_for (bit m (walked n 0 s cs)) c * 1 + 0)) (zero-add (length cs))
      ∙ omega arith
