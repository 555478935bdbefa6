-- A number's last digits, as many as it has, are the number in decimal.
use mathlib.Core.Path.{◌≡◌, refl, sym, ap, ◌∙◌}
use mathlib.Core.List.{List, [], ◌∷◌, ◌++◌, append_assoc}
use Prim.Native.Nat.{ℕ, zero, suc, ◌+◌, ◌/◌, ◌%◌, ◌^◌, ◌≤◌, ◌<◌}
use native.Mathlib.Nat.{pow-suc}
use native.Mathlib.Decide.{dec_lt}
use native.Mathlib.Omega.{arith}
use Rattle.printed.specs.Words.{decimal}
use Rattle.printed.proofs.Decimals.{decimal_one, decimal_more}
use Rattle.words.specs.LastDigits.{last_digits, Reaches}

-- a number from 10^m on and below ten times that has m digits and one more; every number below 10 has one
digits_are : (m x : ℕ) → (0 < m → 10 ^ m ≤ x) → x < 10 ^ suc m → last_digits (suc m) x ≡ decimal x
unfolding last_digits
digits_are zero x least most = ap (λ (d : ℕ). (48 + d) ∷ []) {x = x % 10} {y = x} (omega arith) ∙ sym (decimal_one x (omega arith))
digits_are (suc m) x least most =
    let p = pow-suc 10 m in
    let q = pow-suc 10 (suc m) in
    let many = least (omega arith) in
    let some : 1 ≤ 10 ^ m = pow_some m in
    ap (λ (l : List ℕ). l ++ (48 + x % 10) ∷ []) (digits_are m (x / 10) (λ z. omega arith) (omega arith)) ∙ sym (decimal_more x (omega arith))
  where
    pow_some : (k : ℕ) → 1 ≤ 10 ^ k
    pow_some zero = omega arith
    pow_some (suc k) = let e = pow-suc 10 k in let i = pow_some k in omega arith

-- how many digits a number of 16 bits has, by which powers of ten it reaches
pub digits_counted : {x a b c d : ℕ} → x < 65536 → Reaches 10 x a → Reaches 100 x b → Reaches 1000 x c → Reaches 10000 x d → last_digits (1 + a + b + c + d) x ≡ decimal x
digits_counted {x} {a} {b} {c} {d} few p q r s = go (dec_lt x 10) (dec_lt x 100) (dec_lt x 1000) (dec_lt x 10000)
  where
    count : (m : ℕ) → 1 + a + b + c + d ≡ suc m → (0 < m → 10 ^ m ≤ x) → x < 10 ^ suc m → last_digits (1 + a + b + c + d) x ≡ decimal x
    count m e least most = ap (λ (k : ℕ). last_digits k x) e ∙ digits_are m x least most

    go : Dec (x < 10) → Dec (x < 100) → Dec (x < 1000) → Dec (x < 10000) → last_digits (1 + a + b + c + d) x ≡ decimal x
    go (yes h) u v w =
        let i = p.below h in
        let j = q.below (omega arith) in
        let k = r.below (omega arith) in
        let l = s.below (omega arith) in
        count 0 (omega arith) (λ z. omega arith) (omega arith)
    go (no g) (yes h) v w =
        let i = p.reached (omega arith) in
        let j = q.below h in
        let k = r.below (omega arith) in
        let l = s.below (omega arith) in
        count 1 (omega arith) (λ z. omega arith) (omega arith)
    go (no f) (no g) (yes h) w =
        let i = p.reached (omega arith) in
        let j = q.reached (omega arith) in
        let k = r.below h in
        let l = s.below (omega arith) in
        count 2 (omega arith) (λ z. omega arith) (omega arith)
    go (no f) (no g) (no h) (yes o) =
        let i = p.reached (omega arith) in
        let j = q.reached (omega arith) in
        let k = r.reached (omega arith) in
        let l = s.below o in
        count 3 (omega arith) (λ z. omega arith) (omega arith)
    go (no f) (no g) (no h) (no o) =
        let i = p.reached (omega arith) in
        let j = q.reached (omega arith) in
        let k = r.reached (omega arith) in
        let l = s.reached (omega arith) in
        count 4 (omega arith) (λ z. omega arith) (omega arith)

-- the last digit stands before what comes after the number
pub digits_split : (m x : ℕ) (after : List ℕ) → last_digits (suc m) x ++ after ≡ last_digits m (x / 10) ++ ((48 + x % 10) ∷ after)
unfolding last_digits
digits_split m x after = append_assoc (last_digits m (x / 10)) ((48 + x % 10) ∷ []) after

pub digits_none : (x : ℕ) (after : List ℕ) → last_digits 0 x ++ after ≡ after
unfolding last_digits
digits_none x after = refl
