-- A sum or a difference that wraps at 65,536 and is then reduced modulo N is exact, because N divides 65,536.
use Rattle.std.proofs.Common.{◌≡◌, ℕ, ◌+◌, ◌-◌, ◌%◌, ◌^◌, ◌≤◌, ◌<◌, sym, ap, ◌∙◌, arith, pow_mono, mod-eq_of_lt}
use native.Mathlib.Nat.{mod-add-mod, add-mod_right}
use Rattle.fabric.specs.Labels.{size}
use Rattle.fabric.specs.Links.{lands}
use Rattle.fabric.proofs.Bits.{low_of_low}
use Rattle.fabric.proofs.Links.{there_and_back, lands_lt, lands_minus}

module _ (n i j p q w : ℕ) (small : n ≤ 16) (within : i ≤ n) (step : p ≡ 2 ^ i) (labels : q ≡ 2 ^ n) where
  pub plus_wraps : w ≡ (j + p) % 2 ^ 16 → w % q ≡ lands n i 1 j
  plus_wraps e = rw (e, step, labels) (low_of_low n 16 (j + 2 ^ i) small)

  pub minus_wraps : (w + p) % 2 ^ 16 ≡ j → w % q ≡ lands n i 2 j
  minus_wraps e =
      let l : 2 ^ i ≤ 2 ^ n = pow_mono within in
      let r : ℕ = 2 ^ n - p in
      let g : j % 2 ^ n ≡ (w + p) % 2 ^ n = ap (λ (x : ℕ). x % 2 ^ n) (sym e) ∙ low_of_low n 16 (w + p) small in
      rw (labels, ← step)
      (sym (sym (mod-add-mod j (2 ^ n) r) ∙ ap (λ (x : ℕ). (x + r) % 2 ^ n) g ∙ there_and_back n p r w (omega arith)))

-- the minus link, as a step of sixteen bits that wraps below zero; every code above 1 is minus
pub minus_lands_within : (n i c j p q : ℕ) → n ≤ 12 → i ≤ n → j < size n → 2 ≤ c → p ≡ size i → q ≡ size n
    → ((j + (65536 - p)) % 65536 % q ≡ lands n i c j) × ((j + (65536 - p)) % 65536 % q < size n)
minus_lands_within n i c j p q small within label minus step labels =
    let w : ℕ = (j + (65536 - p)) % 65536 in
    let most : 2 ^ n ≤ 2 ^ 12 = pow_mono small in
    let less : 2 ^ i ≤ 2 ^ n = pow_mono within in
    let back : (w + p) % 65536 ≡ j =
    mod-add-mod (j + (65536 - p)) 65536 p
    ∙ ap (λ (x : ℕ). x % 65536) {x = j + (65536 - p) + p} {y = j + 65536} (omega arith)
    ∙ add-mod_right j 65536
    ∙ mod-eq_of_lt (omega arith) in
    let e = minus_wraps n i j p q w (omega arith) within step labels back in
    (e ∙ sym (lands_minus n i c j minus), rw e (lands_lt n i 2 j label))
