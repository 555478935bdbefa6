-- Laws of a single link: lemma 2.1 of docs/RULES.md, 'Tags and steps', without the table that chooses the link.
use Rattle.std.proofs.Common.{◌≡◌, ℕ, zero, suc, ◌+◌, ◌-◌, ◌*◌, ◌%◌, ◌^◌, ◌<◌, ◌≤◌, ◌⊎◌, ◌↔◌, sym, refl, ap, ◌∙◌, inl, inr, ⊎_elim, mod-lt, mod-eq_of_lt, suc-mul, pow-suc, arith, pow_pos, pow_mono, pow-add}
use native.Mathlib.Nat.{mod-add-mod, add-mod-mod, mod-mod, add-mod_right, mul-add-mod_self_right}
use lib.Pow.{high}
use Rattle.fabric.specs.Labels.{size, bit, Agree}
use Rattle.fabric.specs.Links.{Code, lands}
use Rattle.fabric.proofs.Bits.{low_of_low, low_more, turned, agree_more, agree_bit, bit_of_low}

-- "Straight has code 0", "Plus has code 1", "Minus has code 2", and there is no other
pub three_codes : (c : ℕ) → Code c ↔ ((c ≡ 0) ⊎ ((c ≡ 1) ⊎ (c ≡ 2)))
three_codes c = (told c, ⊎_elim (λ e. omega arith) (⊎_elim (λ e. omega arith) (λ e. omega arith)))
  where
    told : (x : ℕ) → Code x → (x ≡ 0) ⊎ ((x ≡ 1) ⊎ (x ≡ 2))
    told zero h = inl refl
    told (suc zero) h = inr (inl refl)
    told (suc (suc x)) h = inr (inr (omega arith))

-- what holds of the three codes holds of every code
pub each_code : (P : ℕ → Type 0) → P 0 → P 1 → P 2 → (c : ℕ) → Code c → P c
each_code P p q r zero h = p
each_code P p q r (suc zero) h = q
each_code P p q r (suc (suc zero)) h = r
each_code P p q r (suc (suc (suc c))) h = absurd (omega arith)

-- what reads a code above 2 takes it for minus
pub lands_minus : (n i c j : ℕ) → 2 ≤ c → lands n i c j ≡ lands n i 2 j
lands_minus n i zero j h = absurd (omega arith)
lands_minus n i (suc zero) j h = absurd (omega arith)
lands_minus n i (suc (suc c)) j h = refl

-- what is added modulo N and then what it lacks of N
pub there_and_back : (n a b x : ℕ) → a + b ≡ size n → ((x + a) % size n + b) % size n ≡ x % size n
there_and_back n a b x e =
    mod-add-mod (x + a) (size n) b
    ∙ ap (λ (y : ℕ). y % size n) {x = x + a + b} {y = x + size n} (omega arith)
    ∙ add-mod_right x (size n)

module _ (n i : ℕ) where
  pub lands_lt : (c j : ℕ) → j < size n → lands n i c j < size n
  lands_lt zero j h = h
  lands_lt (suc zero) j h = mod-lt _ (pow_pos n)
  lands_lt (suc (suc c)) j h = mod-lt _ (pow_pos n)

module _ (n i : ℕ) (h : i < n) where
  whole : (size n - 2 ^ i) + 2 ^ i ≡ size n
  whole = let l : 2 ^ i ≤ 2 ^ n = pow_mono (omega arith) in omega arith

  -- "Straight has code 0 and lands on j. Plus has code 1 and lands on j + 2^i. Minus has code 2 and lands on j - 2^i", with N taken off above N and added below
  -- zero
  pub straight_lands : (j : ℕ) → lands n i 0 j ≡ j
  straight_lands j = refl

  -- N taken off once
  taken_off : (x : ℕ) → size n ≤ x → x < size n + size n → x % size n + size n ≡ x
  taken_off x more less =
      let y : ℕ = x - size n in
      let e : x % size n ≡ y = ap (λ (z : ℕ). z % size n) {x = x} {y = y + size n} (omega arith) ∙ add-mod_right y (size n) ∙ mod-eq_of_lt (omega arith) in
      omega arith

  pub plus_lands : (j : ℕ) → j < size n → (j + 2 ^ i < size n → lands n i 1 j ≡ j + 2 ^ i) × (size n ≤ j + 2 ^ i → lands n i 1 j + size n ≡ j + 2 ^ i)
  plus_lands j l = (mod-eq_of_lt, λ more. let w = whole in taken_off (j + 2 ^ i) more (omega arith))

  pub minus_lands : (j : ℕ) → j < size n → (2 ^ i ≤ j → lands n i 2 j + 2 ^ i ≡ j) × (j < 2 ^ i → lands n i 2 j + 2 ^ i ≡ j + size n)
  minus_lands j l = (
    (λ above. let w = whole in let e = taken_off (j + (size n - 2 ^ i)) (omega arith) (omega arith) in omega arith),
    λ below. let w = whole in let e : lands n i 2 j ≡ j + (size n - 2 ^ i) = mod-eq_of_lt (omega arith) in omega arith,
  )

  -- minus and plus undo each other: minus takes off what plus adds
  pub minus_then_plus : (j : ℕ) → j < size n → lands n i 1 (lands n i 2 j) ≡ j
  minus_then_plus j l = there_and_back n (size n - 2 ^ i) (2 ^ i) j whole ∙ mod-eq_of_lt l

  pub plus_then_minus : (j : ℕ) → j < size n → lands n i 2 (lands n i 1 j) ≡ j
  plus_then_minus j l = there_and_back n (2 ^ i) (size n - 2 ^ i) j (omega (arith, whole)) ∙ mod-eq_of_lt l

  -- "In the last stage plus and minus land on one switch"
  pub last_stage_meets : suc i ≡ n → (j : ℕ) → lands n i 1 j ≡ lands n i 2 j
  last_stage_meets e j =
      let d : size n ≡ 2 ^ i * 2 = ap (λ (m : ℕ). 2 ^ m) (sym e) ∙ pow-suc 2 i in
      ap (λ (x : ℕ). (j + x) % size n) {x = 2 ^ i} {y = size n - 2 ^ i} (omega arith)

  -- what plus and minus add is 2^i in the low bits up to bit i, so both turn bit i and keep the bits below it
  plus_adds : 2 ^ i % 2 ^ suc i ≡ 2 ^ i
  plus_adds = let d = pow-suc 2 i in let p = pow_pos i in mod-eq_of_lt (omega arith)

  minus_adds : (size n - 2 ^ i) % 2 ^ suc i ≡ 2 ^ i
  minus_adds =
      let k : ℕ = n - suc i in
      let e : k + suc i ≡ n = omega arith in
      let p : size n ≡ 2 ^ k * 2 ^ suc i = ap (λ (m : ℕ). 2 ^ m) (sym e) ∙ pow-add 2 k (suc i) in
      let d = pow-suc 2 i in
      let g : 2 ^ k * 2 ^ suc i ≡ (2 ^ k - 1) * 2 ^ suc i + 2 ^ suc i = block (2 ^ k) (2 ^ suc i) (pow_pos k) in
      ap (λ (x : ℕ). x % 2 ^ suc i) {x = size n - 2 ^ i} {y = (2 ^ k - 1) * 2 ^ suc i + 2 ^ i} (omega arith)
      ∙ mul-add-mod_self_right (2 ^ k - 1) (2 ^ suc i) (2 ^ i)
      ∙ plus_adds
    where
      block : (a b : ℕ) → 0 < a → a * b ≡ (a - 1) * b + b
      block zero b z = absurd (omega arith)
      block (suc a) b z = suc-mul a b ∙ ap (λ (x : ℕ). x * b + b) {x = a} {y = suc a - 1} (omega arith)

  turns : (a j : ℕ) → a % 2 ^ suc i ≡ 2 ^ i → (j + a) % size n % 2 ^ suc i ≡ (1 - bit i j) * 2 ^ i + j % 2 ^ i
  turns a j e = low_of_low (suc i) n (j + a) h ∙ sym (add-mod-mod j a (2 ^ suc i)) ∙ ap (λ (x : ℕ). (j + x) % 2 ^ suc i) e ∙ turned i j

  -- a nonstraight link turns bit i and keeps the bits below it
  pub nonstraight_low : (c j : ℕ) → 0 < c → lands n i c j % 2 ^ suc i ≡ (1 - bit i j) * 2 ^ i + j % 2 ^ i
  nonstraight_low zero j z = absurd (omega arith)
  nonstraight_low (suc zero) j z = turns (2 ^ i) j plus_adds
  nonstraight_low (suc (suc c)) j z = turns (size n - 2 ^ i) j minus_adds

  -- a straight link keeps them all
  pub straight_low : (j : ℕ) → lands n i 0 j % 2 ^ suc i ≡ bit i j * 2 ^ i + j % 2 ^ i
  straight_low j = low_more i j

  -- the bits below bit i stay
  pub low_bits_stay : (c j : ℕ) → Agree i (lands n i c j) j
  low_bits_stay zero j = refl
  low_bits_stay (suc c) j = kept (lands n i (suc c) j) (nonstraight_low (suc c) j (omega arith))
    where
      kept : (x : ℕ) → x % 2 ^ suc i ≡ (1 - bit i j) * 2 ^ i + j % 2 ^ i → Agree i x j
      kept x e =
          sym (low_of_low i (suc i) x (omega arith))
          ∙ ap (λ (y : ℕ). y % 2 ^ i) e
          ∙ mul-add-mod_self_right (1 - bit i j) (2 ^ i) (j % 2 ^ i)
          ∙ mod-mod j (2 ^ i)

  -- a nonstraight link turns bit i
  pub nonstraight_bit : (c j : ℕ) → 0 < c → bit i (lands n i c j) ≡ 1 - bit i j
  nonstraight_bit c j z =
      sym (bit_of_low i (suc i) (lands n i c j) (omega arith))
      ∙ ap (bit i) (nonstraight_low c j z)
      ∙ ap (λ (x : ℕ). x % 2) (high (1 - bit i j) i (mod-lt j (pow_pos i)))
      ∙ omega arith

  -- a link leads toward d, one bit further, exactly when its switch agrees with d below bit i and it is straight where bit i
  -- is right and nonstraight where it is wrong
  pub toward_straight : (c j d : ℕ) → Agree (suc i) (lands n i c j) d → bit i j ≡ bit i d → c ≡ 0
  toward_straight zero j d e b = refl
  toward_straight (suc c) j d e b =
      let f = nonstraight_bit (suc c) j (omega arith) in
      let g = agree_bit i (suc i) (lands n i (suc c) j) d (omega arith) e in
      absurd (omega arith)

  pub toward_nonstraight : (c j d : ℕ) → Agree (suc i) (lands n i c j) d → (bit i j ≡ bit i d → ⊥) → 0 < c
  toward_nonstraight zero j d e b = absurd (b (agree_bit i (suc i) j d (omega arith) e))
  toward_nonstraight (suc c) j d e b = omega arith

  pub straight_toward : (j d : ℕ) → Agree i j d → bit i j ≡ bit i d → Agree (suc i) (lands n i 0 j) d
  straight_toward j d e b = agree_more i j d b e

  pub nonstraight_toward : (c j d : ℕ) → 0 < c → Agree i j d → (bit i j ≡ bit i d → ⊥) → Agree (suc i) (lands n i c j) d
  nonstraight_toward c j d z e b =
      let f = nonstraight_bit c j z in
      agree_more i (lands n i c j) d (omega arith) (low_bits_stay c j ∙ e)
