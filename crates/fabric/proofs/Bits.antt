-- Laws of the low bits of a number.
use Rattle.std.proofs.Common.{◌≡◌, ℕ, zero, suc, ◌+◌, ◌-◌, ◌*◌, ◌/◌, ◌%◌, ◌^◌, ◌<◌, ◌≤◌, sym, ap, ◌∙◌, subst, ap₂, mod-lt, mod-eq_of_lt, pow-suc, arith, pow_pos}
use native.Mathlib.Nat.{mod-add-mod, add-mul-mod_self_right}
use native.Mathlib.Decide.{ℕ_discrete}
use lib.Pow.{mod-pow-add, mod-mod-pow, field}
use Rattle.fabric.specs.Labels.{bit, Agree}

pub bit_lt : (i x : ℕ) → bit i x < 2
bit_lt i x = omega arith

-- the low k bits of the low m bits
pub low_of_low : (k m x : ℕ) → k ≤ m → x % 2 ^ m % 2 ^ k ≡ x % 2 ^ k
low_of_low k m x h =
    let e : m - k + k ≡ m = omega arith in
    subst (λ (p : ℕ). x % 2 ^ p % 2 ^ k ≡ x % 2 ^ k) e (mod-mod-pow x (m - k) k)

-- one bit more
pub low_more : (k x : ℕ) → x % 2 ^ suc k ≡ bit k x * 2 ^ k + x % 2 ^ k
low_more k x =
    let e : 1 + k ≡ suc k = omega arith in
    subst (λ (p : ℕ). x % 2 ^ p ≡ bit k x * 2 ^ k + x % 2 ^ k) e (mod-pow-add x 1 k)

pub agree_less : (k m x y : ℕ) → k ≤ m → Agree m x y → Agree k x y
agree_less k m x y h e = sym (low_of_low k m x h) ∙ ap (λ (z : ℕ). z % 2 ^ k) e ∙ low_of_low k m y h

pub agree_more : (k x y : ℕ) → bit k x ≡ bit k y → Agree k x y → Agree (suc k) x y
agree_more k x y b e = low_more k x ∙ ap₂ (λ (u v : ℕ). u * 2 ^ k + v) b e ∙ sym (low_more k y)

-- bit i of the low m bits
pub bit_of_low : (i m x : ℕ) → i < m → bit i (x % 2 ^ m) ≡ bit i x
bit_of_low i m x h =
    let e : m - i + i ≡ m = omega arith in
    let f : x % 2 ^ m / 2 ^ i ≡ x / 2 ^ i % 2 ^ (m - i) = subst (λ (p : ℕ). x % 2 ^ p / 2 ^ i ≡ x / 2 ^ i % 2 ^ (m - i)) e (field x (m - i) i) in
    ap (λ (z : ℕ). z % 2) f ∙ low_of_low 1 (m - i) (x / 2 ^ i) (omega arith)

pub agree_bit : (i m x y : ℕ) → i < m → Agree m x y → bit i x ≡ bit i y
agree_bit i m x y h e = sym (bit_of_low i m x h) ∙ ap (bit i) e ∙ bit_of_low i m y h

-- numbers that agree in each of their low k bits
pub agree_by_bits : (k x y : ℕ) → ((i : ℕ) → i < k → bit i x ≡ bit i y) → Agree k x y
agree_by_bits zero x y h = omega arith
agree_by_bits (suc k) x y h = agree_more k x y (h k (omega arith)) (agree_by_bits k x y (λ i l. h i (omega arith)))

-- numbers below 2^k are told apart by their low k bits
pub agree_below : (k x y : ℕ) → x < 2 ^ k → y < 2 ^ k → Agree k x y → x ≡ y
agree_below k x y hx hy e = sym (mod-eq_of_lt hx) ∙ e ∙ mod-eq_of_lt hy

-- 2^k added turns bit k and keeps the bits below it
pub turned : (k x : ℕ) → (x + 2 ^ k) % 2 ^ suc k ≡ (1 - bit k x) * 2 ^ k + x % 2 ^ k
turned k x =
    let p : ℕ = 2 ^ k in
    let r : ℕ = x % 2 ^ k in
    let l : r < p = mod-lt x (pow_pos k) in
    let d : 2 ^ suc k ≡ p * 2 = pow-suc 2 k in
    let e : (x + p) % 2 ^ suc k ≡ (bit k x * p + r + p) % 2 ^ suc k = sym (mod-add-mod x (2 ^ suc k) p) ∙ ap (λ (z : ℕ). (z + p) % 2 ^ suc k) (low_more k x) in
    e ∙ go p r l d (ℕ_discrete (bit k x) 0)
  where
    go : (p r : ℕ) → r < p → 2 ^ suc k ≡ p * 2 → Dec (bit k x ≡ 0) → (bit k x * p + r + p) % 2 ^ suc k ≡ (1 - bit k x) * p + r
    go p r l d (yes z) = rw z (ap (λ (w : ℕ). w % 2 ^ suc k) {x = 0 * p + r + p} {y = 1 * p + r} (omega arith) ∙ mod-eq_of_lt (omega arith))
    go p r l d (no z) =
        let o : bit k x ≡ 1 = omega (arith, bit_lt k x) in
        rw (o, d) (ap (λ (w : ℕ). w % (p * 2)) {x = 1 * p + r + p} {y = r + 1 * (p * 2)} (omega arith) ∙ add-mul-mod_self_right r 1 (p * 2) ∙ mod-eq_of_lt (omega arith) ∙ omega arith)

-- what reading a bit of a number says of another number that is the same
pub bit_read : (i j r : ℕ) → (k : ℕ) × (k ≡ j) × (r ≡ bit i k) × (r < 2) → r ≡ bit i j
bit_read i j r w = w.2 ∙ ap (bit i) w.1
