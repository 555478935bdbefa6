-- A word of sets, four bits a stage: one set more.
use Rattle.std.proofs.Common.{◌≡◌, ℕ, zero, suc, ◌+◌, ◌-◌, ◌*◌, ◌/◌, ◌%◌, ◌^◌, ◌<◌, ◌≤◌, min, max, Bool, true, false, not, ◌&&◌, ◌||◌, eqb, sym, refl, ap, ◌∙◌, ap₂, mod-eq_of_lt, mul_assoc, arith, pow_pos, pow_mono, pow-add, shl_lt, eq-eqb, ne_eqb}
use native.Mathlib.Nat.{mul-add-mod_self_right, mul-mod_left, zero-max}
use native.Mathlib.Decide.{ℕ_discrete, dec_lt}
use lib.Pow.{shl-shr, high}
use lib.Bits.{bit_and, bit_or, and_step, and_shr, and_le_l, or_step, or_shr}
use Rattle.fabric.specs.Labels.{bit}
use Rattle.fabric.proofs.Bits.{bit_lt, bit_of_low}
use Rattle.frontier.specs.Stops.{StopsAt, has, set_of, links_of, share}

-- of two bits, the greater is one where either is, the lesser where both are
max_lt : (x y : ℕ) → x < 2 → y < 2 → max x y < 2
max_lt zero y hx hy = rw (zero-max y) hy
max_lt (suc zero) zero hx hy = omega arith
max_lt (suc zero) (suc zero) hx hy = omega arith
max_lt (suc zero) (suc (suc y)) hx hy = absurd (omega arith)
max_lt (suc (suc x)) y hx hy = absurd (omega arith)

min_lt : (x y : ℕ) → x < 2 → y < 2 → min x y < 2
min_lt zero zero hx hy = omega arith
min_lt zero (suc y) hx hy = omega arith
min_lt (suc zero) zero hx hy = omega arith
min_lt (suc zero) (suc zero) hx hy = omega arith
min_lt (suc zero) (suc (suc y)) hx hy = absurd (omega arith)
min_lt (suc (suc x)) y hx hy = absurd (omega arith)

max_one : (x y : ℕ) → x < 2 → y < 2 → eqb (max x y) 1 ≡ (eqb x 1 || eqb y 1)
max_one zero y hx hy = ap (λ (z : ℕ). eqb z 1) (zero-max y)
max_one (suc zero) zero hx hy = refl
max_one (suc zero) (suc zero) hx hy = refl
max_one (suc zero) (suc (suc y)) hx hy = absurd (omega arith)
max_one (suc (suc x)) y hx hy = absurd (omega arith)

min_one : (x y : ℕ) → x < 2 → y < 2 → eqb (min x y) 1 ≡ (eqb x 1 && eqb y 1)
min_one zero zero hx hy = refl
min_one zero (suc zero) hx hy = refl
min_one zero (suc (suc y)) hx hy = absurd (omega arith)
min_one (suc zero) zero hx hy = refl
min_one (suc zero) (suc zero) hx hy = refl
min_one (suc zero) (suc (suc y)) hx hy = absurd (omega arith)
min_one (suc (suc x)) y hx hy = absurd (omega arith)

pub has_or : (c a b : ℕ) → has (bit_or a b) c ≡ (has a c || has b c)
has_or c a b =
    ap (λ (x : ℕ). eqb x 1)
    (ap (λ (x : ℕ). x % 2) (or_shr a b c ∙ or_step (a / 2 ^ c) (b / 2 ^ c))
    ∙ mul-add-mod_self_right (bit_or (a / 2 ^ c / 2) (b / 2 ^ c / 2)) 2 (max (bit c a) (bit c b))
    ∙ mod-eq_of_lt (max_lt (bit c a) (bit c b) (bit_lt c a) (bit_lt c b)))
    ∙ max_one (bit c a) (bit c b) (bit_lt c a) (bit_lt c b)

pub has_and : (c a b : ℕ) → has (bit_and a b) c ≡ (has a c && has b c)
has_and c a b =
    ap (λ (x : ℕ). eqb x 1)
    (ap (λ (x : ℕ). x % 2) (and_shr a b c ∙ and_step (a / 2 ^ c) (b / 2 ^ c))
    ∙ mul-add-mod_self_right (bit_and (a / 2 ^ c / 2) (b / 2 ^ c / 2)) 2 (min (bit c a) (bit c b))
    ∙ mod-eq_of_lt (min_lt (bit c a) (bit c b) (bit_lt c a) (bit_lt c b)))
    ∙ min_one (bit c a) (bit c b) (bit_lt c a) (bit_lt c b)

set_links : (straight plus minus : Bool) → ◌≡◌ {A = StopsAt} (links_of (set_of straight plus minus)) (record { straight = straight; plus = plus; minus = minus })
set_links true true true = refl
set_links true true false = refl
set_links true false true = refl
set_links true false false = refl
set_links false true true = refl
set_links false true false = refl
set_links false false true = refl
set_links false false false = refl

-- a set made of three links has each where it was put in
pub set_of_has : (put : ℕ → Bool) (c : ℕ) → c < 3 → has (set_of (put 0) (put 1) (put 2)) c ≡ put c
set_of_has put zero h = ap (λ (x : StopsAt). x.straight) (set_links (put 0) (put 1) (put 2))
set_of_has put (suc zero) h = ap (λ (x : StopsAt). x.plus) (set_links (put 0) (put 1) (put 2))
set_of_has put (suc (suc zero)) h = ap (λ (x : StopsAt). x.minus) (set_links (put 0) (put 1) (put 2))
set_of_has put (suc (suc (suc c))) h = absurd (omega arith)

pub none_has : (c : ℕ) → has 0 c ≡ false
none_has c = let e : 0 / 2 ^ c ≡ 0 = ap (λ (x : ℕ). x / 2 ^ c) {x = 0} {y = 0 * 2 ^ c + 0} (omega arith) ∙ high 0 c (pow_pos c) in rw e refl

-- a set of the three links is empty where it has none of them
none_or_some : (m : ℕ) → m < 8 → not (eqb m 0) ≡ (has m 0 || (has m 1 || has m 2))
none_or_some zero h = refl
none_or_some (suc zero) h = refl
none_or_some (suc (suc zero)) h = refl
none_or_some (suc (suc (suc zero))) h = refl
none_or_some (suc (suc (suc (suc zero)))) h = refl
none_or_some (suc (suc (suc (suc (suc zero))))) h = refl
none_or_some (suc (suc (suc (suc (suc (suc zero)))))) h = refl
none_or_some (suc (suc (suc (suc (suc (suc (suc zero))))))) h = refl
none_or_some (suc (suc (suc (suc (suc (suc (suc (suc m)))))))) h = absurd (omega arith)

-- so two sets have a link in common where what they share is not empty
pub shared_exactly : (a b : ℕ) → a < 8 → not (eqb (bit_and a b) 0) ≡ share a b
shared_exactly a b small =
    none_or_some (bit_and a b) (omega (arith, and_le_l a b))
    ∙ ap₂ (λ (x y : Bool). x || y) (has_and 0 a b) (ap₂ (λ (x y : Bool). x || y) (has_and 1 a b) (has_and 2 a b))

-- a set put at stage k is stage k's, and no other's
module _ (set k : ℕ) (small : set < 8) where
  abbrev put : ℕ
  put = set * 2 ^ (4 * k)

  earlier_none : (i c : ℕ) → i < k → c < 3 → has (put / 2 ^ (4 * i)) c ≡ false
  earlier_none i c h hc =
      let m : ℕ = 4 * (k - i) - suc c in
      let e : put ≡ set * 2 ^ m * 2 * 2 ^ c * 2 ^ (4 * i) =
      ap (λ (x : ℕ). set * 2 ^ x) {x = 4 * k} {y = m + 1 + c + 4 * i} (omega arith)
      ∙ ap (λ (x : ℕ). set * x) (pow-add 2 (m + 1 + c) (4 * i) ∙ ap (λ (x : ℕ). x * 2 ^ (4 * i)) (pow-add 2 (m + 1) c ∙ ap (λ (x : ℕ). x * 2 ^ c) (pow-add 2 m 1)))
      ∙ sym (mul_assoc set (2 ^ m * 2 * 2 ^ c) (2 ^ (4 * i)))
      ∙ ap (λ (x : ℕ). x * 2 ^ (4 * i)) (sym (mul_assoc set (2 ^ m * 2) (2 ^ c)) ∙ ap (λ (x : ℕ). x * 2 ^ c) (sym (mul_assoc set (2 ^ m) 2))) in
      let f : put / 2 ^ (4 * i) ≡ set * 2 ^ m * 2 * 2 ^ c = ap (λ (x : ℕ). x / 2 ^ (4 * i)) e ∙ shl-shr (set * 2 ^ m * 2 * 2 ^ c) (4 * i) in
      let b : bit c (put / 2 ^ (4 * i)) ≡ 0 = ap (bit c) f ∙ ap (λ (x : ℕ). x % 2) (shl-shr (set * 2 ^ m * 2) c) ∙ mul-mod_left (set * 2 ^ m) 2 in
      rw b refl

  later_none : (i c : ℕ) → k < i → has (put / 2 ^ (4 * i)) c ≡ false
  later_none i c h =
      let l : put < 2 ^ (3 + 4 * k) = shl_lt 3 (4 * k) small in
      let m : 2 ^ (3 + 4 * k) ≤ 2 ^ (4 * i) = pow_mono (omega arith) in
      let e : put / 2 ^ (4 * i) ≡ 0 = ap (λ (x : ℕ). x / 2 ^ (4 * i)) {x = put} {y = 0 * 2 ^ (4 * i) + put} (omega arith) ∙ high 0 (4 * i) (omega arith) in
      ap (λ (x : ℕ). has x c) e ∙ none_has c

  put_has : (i c : ℕ) → c < 3 → has (put / 2 ^ (4 * i)) c ≡ (eqb i k && has set c)
  put_has i c hc = go (ℕ_discrete i k) (dec_lt i k)
    where
      go : Dec (i ≡ k) → Dec (i < k) → has (put / 2 ^ (4 * i)) c ≡ (eqb i k && has set c)
      go (yes e) h = rw (eq-eqb i k e, e) (ap (λ (x : ℕ). has x c) (shl-shr set (4 * k)))
      go (no e) (yes h) = rw (ne_eqb i k e) (earlier_none i c h hc)
      go (no e) (no h) = rw (ne_eqb i k e) (later_none i c (omega arith))

  -- the word with the set more
  pub set_more : (w i c : ℕ) → c < 3 → has (bit_or w put / 2 ^ (4 * i) % 16) c ≡ (has (w / 2 ^ (4 * i) % 16) c || (eqb i k && has set c))
  set_more w i c hc =
      let within : c < 4 = omega arith in
      ap (λ (x : ℕ). eqb x 1) (bit_of_low c 4 (bit_or w put / 2 ^ (4 * i)) within)
      ∙ ap (λ (x : ℕ). has x c) (or_shr w put (4 * i))
      ∙ has_or c (w / 2 ^ (4 * i)) (put / 2 ^ (4 * i))
      ∙ ap (λ (b : Bool). has (w / 2 ^ (4 * i)) c || b) (put_has i c hc)
      ∙ ap (λ (x : ℕ). eqb x 1 || (eqb i k && has set c)) (sym (bit_of_low c 4 (w / 2 ^ (4 * i)) within))
