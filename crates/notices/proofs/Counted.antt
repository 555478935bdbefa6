-- How many switches a pattern names: 2^(n - ones of its mask), so that 'too wide' is a statement about switches.
use mathlib.Core.Path.{◌≡◌, refl, sym, ap, ap₂, ◌∙◌}
use mathlib.Core.Bool.{Bool, true, false, cond, not, ◌&&◌, ◌||◌, and-true, and-false}
use Prim.Native.Nat.{ℕ, zero, suc, ◌+◌, ◌-◌, ◌*◌, ◌/◌, ◌%◌, ◌^◌, ◌≤◌, ◌<◌, min}
use native.Mathlib.Nat.{pow-suc}
use native.Mathlib.Numerals.{add-one}
use native.Mathlib.Decide.{ℕ_discrete, dec_lt}
use native.Mathlib.Omega.{arith}
use borrow.Author.Tests.{eq-eqb, ne_eqb, eqb-true, lt-ltb, le-ltb, leb-false, ltb-true, ltb-false, not-false}
use lib.Dec.{eqb}
use lib.Bits.{bit_and, and_step, and_zero_r}
use lib.Pow.{shr_lt, pow_mono}
use lib.Count.{ones, ones_step, ones-le}
use Rattle.table.proofs.Checks.{neither}
use Rattle.table.specs.Checks.{◌below◌, ◌not_below◌}
use Rattle.fabric.specs.Labels.{size}
use Rattle.notices.specs.declared.Notice.{Notice}
use Rattle.notices.specs.declared.Target.TheVariants.{Links, Pattern}
use Rattle.notices.specs.Targets.{set_has, bad_set, target_bad}
use Rattle.notices.specs.Classes.{bad_class}
use Rattle.notices.specs.Notices.{names, bad_field, too_wide, unfit, how_many, switches_named}
use Rattle.notices.proofs.Fit.{ones_below, two_ones, pattern_fit}

-- tests that agree pick the same number of labels
same_tests : (f g : ℕ → Bool) → ((j : ℕ) → f j ≡ g j) → (k : ℕ) → how_many f k ≡ how_many g k
unfolding how_many
same_tests f g h zero = refl
same_tests f g h (suc k) = ap₂ (λ (a : ℕ) (b : Bool). a + cond b 1 0) (same_tests f g h k) (h k)

none_picked : (f : ℕ → Bool) → ((j : ℕ) → f j ≡ false) → (k : ℕ) → how_many f k ≡ 0
unfolding how_many
none_picked f h zero = refl
none_picked f h (suc k) = ap₂ (λ (a : ℕ) (b : Bool). a + cond b 1 0) (none_picked f h k) (h k)

-- a test that one label alone passes picks that one, where it is among them
pub one_picked : (t k : ℕ) → how_many (λ j. eqb j t) k ≡ cond (t below k) 1 0
unfolding how_many
one_picked t zero = rw (le-ltb t 0 (omega arith))
one_picked t (suc k) = go (ℕ_discrete k t) (dec_lt t k) (one_picked t k)
  where
    go : Dec (k ≡ t) → Dec (t < k) → how_many (λ j. eqb j t) k ≡ cond (t below k) 1 0 → how_many (λ j. eqb j t) (suc k) ≡ cond (t below suc k) 1 0
    go (yes e) l ih =
        let z : how_many (λ j. eqb j t) k ≡ 0 = ih ∙ rw (le-ltb t k (omega arith)) in
        rw (z, eq-eqb k t e, lt-ltb t (suc k) (omega arith))
    go (no e) (yes l) ih =
        let o : how_many (λ j. eqb j t) k ≡ 1 = ih ∙ rw (lt-ltb t k l) in
        rw (o, ne_eqb k t e, lt-ltb t (suc k) (omega arith))
    go (no e) (no l) ih =
        let z : how_many (λ j. eqb j t) k ≡ 0 = ih ∙ rw (le-ltb t k (omega arith)) in
        rw (z, ne_eqb k t e, le-ltb t (suc k) (omega arith))

-- the labels below twice m are the even ones and the odd ones
even_and_odd : (f : ℕ → Bool) (m : ℕ) → how_many f (m * 2) ≡ how_many (λ j. f (j * 2 + 0)) m + how_many (λ j. f (j * 2 + 1)) m
unfolding how_many
even_and_odd f zero = refl
even_and_odd f (suc m) =
    let e : suc m * 2 ≡ suc (suc (m * 2)) = omega arith in
    let ih = even_and_odd f m in
    let even : ◌≡◌ {A = ℕ} (cond (f (m * 2)) 1 0) (cond (f (m * 2 + 0)) 1 0) = ap (λ (x : ℕ). cond (f x) 1 0) {x = m * 2} {y = m * 2 + 0} (omega arith) in
    let odd : ◌≡◌ {A = ℕ} (cond (f (suc (m * 2))) 1 0) (cond (f (m * 2 + 1)) 1 0) = ap (λ (x : ℕ). cond (f x) 1 0) {x = suc (m * 2)} {y = m * 2 + 1} (omega arith) in
    ap (how_many f) e ∙ omega arith

-- a pattern's test of a label: of its lowest bit b and of the rest
low_and_rest : (v m b j : ℕ) → b < 2 → eqb (bit_and (j * 2 + b) m) v ≡ (eqb (bit_and j (m / 2)) (v / 2) && eqb (min b (m % 2)) (v % 2))
low_and_rest v m b j h =
    let d : (j * 2 + b) / 2 ≡ j = omega arith in
    let r : (j * 2 + b) % 2 ≡ b = omega arith in
    ap (λ (x : ℕ). eqb x v) (and_step (j * 2 + b) m)
    ∙ ap₂ (λ (x y : ℕ). eqb (bit_and x (m / 2) * 2 + min y (m % 2)) v) d r
    ∙ apart (bit_and j (m / 2)) (min b (m % 2)) (omega arith)
  where
    apart : (x y : ℕ) → y < 2 → eqb (x * 2 + y) v ≡ (eqb x (v / 2) && eqb y (v % 2))
    apart x y l = go (ℕ_discrete x (v / 2)) (ℕ_discrete y (v % 2))
      where
        go : Dec (x ≡ v / 2) → Dec (y ≡ v % 2) → eqb (x * 2 + y) v ≡ (eqb x (v / 2) && eqb y (v % 2))
        go (yes p) (yes q) = rw (eq-eqb x (v / 2) p, eq-eqb y (v % 2) q) (eq-eqb (x * 2 + y) v (omega arith))
        go (yes p) (no q) = rw (eq-eqb x (v / 2) p, ne_eqb y (v % 2) q) (ne_eqb (x * 2 + y) v (λ e. q (omega arith)))
        go (no p) q = rw (ne_eqb x (v / 2) p) (ne_eqb (x * 2 + y) v (λ e. p (omega arith)))

-- the labels under a pattern
abbrev pub picked : ℕ → ℕ → ℕ → ℕ
picked k v m = how_many (λ j. eqb (bit_and j m) v) k

-- those with lowest bit b: as many as the rest of the pattern picks, or none
picked_with : (k v m b : ℕ) → b < 2 → min b (m % 2) ≡ v % 2 → how_many (λ j. eqb (bit_and (j * 2 + b) m) v) k ≡ picked k (v / 2) (m / 2)
picked_with k v m b h e =
    same_tests (λ j. eqb (bit_and (j * 2 + b) m) v) (λ j. eqb (bit_and j (m / 2)) (v / 2))
    (λ j. low_and_rest v m b j h ∙ ap (λ (t : Bool). eqb (bit_and j (m / 2)) (v / 2) && t) (eq-eqb (min b (m % 2)) (v % 2) e) ∙ and-true (eqb (bit_and j (m / 2)) (v / 2)))
    k

none_with : (k v m b : ℕ) → b < 2 → (min b (m % 2) ≡ v % 2 → ⊥) → how_many (λ j. eqb (bit_and (j * 2 + b) m) v) k ≡ 0
none_with k v m b h e =
    none_picked (λ j. eqb (bit_and (j * 2 + b) m) v)
    (λ j. low_and_rest v m b j h ∙ ap (λ (t : Bool). eqb (bit_and j (m / 2)) (v / 2) && t) (ne_eqb (min b (m % 2)) (v % 2) e) ∙ and-false (eqb (bit_and j (m / 2)) (v / 2)))
    k

within_half : (v m : ℕ) → bit_and v m ≡ v → (bit_and (v / 2) (m / 2) ≡ v / 2) × (min (v % 2) (m % 2) ≡ v % 2)
within_half v m e =
    let s = and_step v m in
    let l : min (v % 2) (m % 2) < 2 = omega arith in
    (omega arith, omega arith)

-- each one of the mask halves the number of labels
pub picked_is : (n v m : ℕ) → m < 2 ^ n → bit_and v m ≡ v → picked (2 ^ n) v m ≡ 2 ^ (n - ones m)
unfolding how_many ones
picked_is zero v m h w =
    let z : m ≡ 0 = omega arith in
    let u : v ≡ 0 = sym w ∙ ap (bit_and v) z ∙ and_zero_r v in
    rw (z, u) refl
picked_is (suc n) v m h w =
    let l : m / 2 < 2 ^ n = shr_lt n 1 (rw add-one h) in
    go (picked_is n (v / 2) (m / 2) l (within_half v m w).0) (ones-le n (m / 2) l) (ones_step m) (within_half v m w).1 (ℕ_discrete (m % 2) 0) (ℕ_discrete (v % 2) 0)
  where
    halves : picked (2 ^ suc n) v m ≡ how_many (λ j. eqb (bit_and (j * 2 + 0) m) v) (2 ^ n) + how_many (λ j. eqb (bit_and (j * 2 + 1) m) v) (2 ^ n)
    halves = ap (λ (k : ℕ). picked k v m) (pow-suc 2 n) ∙ even_and_odd (λ j. eqb (bit_and j m) v) (2 ^ n)

    go : picked (2 ^ n) (v / 2) (m / 2) ≡ 2 ^ (n - ones (m / 2)) → ones (m / 2) ≤ n → ones m ≡ m % 2 + ones (m / 2) → min (v % 2) (m % 2) ≡ v % 2
        → Dec (m % 2 ≡ 0) → Dec (v % 2 ≡ 0) → picked (2 ^ suc n) v m ≡ 2 ^ (suc n - ones m)
    go ih l o b (yes e) z =
        let even = picked_with (2 ^ n) v m 0 (omega arith) (omega arith) in
        let odd = picked_with (2 ^ n) v m 1 (omega arith) (omega arith) in
        let p : 2 ^ (suc n - ones m) ≡ 2 ^ (n - ones (m / 2)) * 2 = ap (λ (x : ℕ). 2 ^ x) {x = suc n - ones m} {y = suc (n - ones (m / 2))} (omega arith) ∙ pow-suc 2 (n - ones (m / 2)) in
        halves ∙ omega arith
    go ih l o b (no e) (yes z) =
        let even = picked_with (2 ^ n) v m 0 (omega arith) (omega arith) in
        let odd = none_with (2 ^ n) v m 1 (omega arith) (omega arith) in
        let p : 2 ^ (suc n - ones m) ≡ 2 ^ (n - ones (m / 2)) = ap (λ (x : ℕ). 2 ^ x) {x = suc n - ones m} {y = n - ones (m / 2)} (omega arith) in
        halves ∙ omega arith
    go ih l o b (no e) (no z) =
        let even = none_with (2 ^ n) v m 0 (omega arith) (omega arith) in
        let odd = picked_with (2 ^ n) v m 1 (omega arith) (omega arith) in
        let p : 2 ^ (suc n - ones m) ≡ 2 ^ (n - ones (m / 2)) = ap (λ (x : ℕ). 2 ^ x) {x = suc n - ones m} {y = n - ones (m / 2)} (omega arith) in
        halves ∙ omega arith

-- a links notice of a switch of the fabric names one switch, for each code of its set
pub links_name_one : (n : ℕ) (x : Notice) (stage switch s c : ℕ) → x.target ≡ Links stage switch s → switch < size n → set_has s c ≡ true
    → switches_named n x stage c ≡ 1
links_name_one n x stage switch s c is h has =
    same_tests (λ j. names n x stage j c) (λ j. eqb j switch)
    (λ j. rw (is, eq-eqb stage stage refl, has) (and-true (eqb j switch)))
    (size n)
    ∙ one_picked switch (size n)
    ∙ rw (lt-ltb switch (size n) h)

-- a pattern that check 5 passes, at its stage, for each code of its set
module _ (n : ℕ) (x : Notice) (stage value mask s c : ℕ) (is : x.target ≡ Pattern stage value mask s) (good : bad_field n x ≡ false) (has : set_has s c ≡ true) where
  tested : ((bad_set s || mask not_below size n) ≡ false) × (not (eqb (bit_and value mask) value) ≡ false)
  tested =
      let target : target_bad n x.target ≡ false = (neither (target_bad n x.target) (bad_class x.class) good).0 in
      neither (bad_set s || mask not_below size n) (not (eqb (bit_and value mask) value)) (rw is at target)

  small : mask < size n
  small = leb-false (size n) mask (neither (bad_set s) (mask not_below size n) tested.0).1

  inside : bit_and value mask ≡ value
  inside = eqb-true (bit_and value mask) value (not-false _ tested.1)

  pub pattern_names_many : switches_named n x stage c ≡ 2 ^ (n - ones mask)
  pattern_names_many =
      same_tests (λ j. names n x stage j c) (λ j. eqb (bit_and j mask) value)
      (λ j. rw (is, eq-eqb stage stage refl, has) (and-true (eqb (bit_and j mask) value)))
      (size n)
      ∙ picked_is n value mask small inside

  -- "A mask of no ones or of one is too wide": such a pattern names half of the switches of its stage, or all
  pub too_wide_names_half : too_wide x ≡ true → size n ≤ switches_named n x stage c * 2
  too_wide_names_half e =
      let o = ltb-true (ones mask) 2 (rw is at e) in
      let l = ones-le n mask small in
      let p : 2 ^ n ≤ 2 ^ (suc (n - ones mask)) = pow_mono (omega arith) in
      let q = pow-suc 2 (n - ones mask) in
      let k = pattern_names_many in
      omega arith

  -- and one that is not too wide names a quarter of them at most
  pub narrow_names_quarter : too_wide x ≡ false → switches_named n x stage c * 4 ≤ size n
  narrow_names_quarter e =
      let o = ltb-false (ones mask) 2 (rw is at e) in
      let l = ones-le n mask small in
      let p : 2 ^ (suc (suc (n - ones mask))) ≤ 2 ^ n = pow_mono (omega arith) in
      let q = pow-suc 2 (n - ones mask) in
      let r = pow-suc 2 (suc (n - ones mask)) in
      let k = pattern_names_many in
      omega arith

-- "With n = 1 there is no other, so every pattern is refused"
pub one_stage_no_pattern : (x : Notice) (stage value mask s : ℕ) → x.target ≡ Pattern stage value mask s → unfit 1 x ≡ true
one_stage_no_pattern x stage value mask s is = go (unfit 1 x) refl
  where
    go : (u : Bool) → unfit 1 x ≡ u → unfit 1 x ≡ true
    go true e = e
    go false e =
        let w = (pattern_fit 1 x stage value mask s is).0 e in
        let few = ones-le 1 mask ((ones_below 1 mask).1 w.3) in
        let many = (two_ones mask).1 w.6 in
        absurd (omega arith)
