-- Which links a notice of each target names, in the documents' own terms.
use mathlib.Core.Path.{◌≡◌, refl, sym, ap, ◌∙◌}
use mathlib.Core.Bool.{Bool, true, false, ◌&&◌}
use mathlib.Core.Logic.{inl, inr, ⊎_elim, ◌↔◌}
use Prim.Native.Nat.{ℕ, zero, suc, ◌+◌, ◌/◌, ◌%◌, ◌^◌, ◌≤◌, ◌<◌, min}
use native.Mathlib.Nat.{mod-lt, div-eq_of_lt, pow-suc}
use native.Mathlib.Decide.{ℕ_discrete, dec_lt}
use native.Mathlib.Omega.{arith}
use borrow.Author.Tests.{eq-eqb, ne_eqb, eqb-true}
use lib.Dec.{eqb}
use lib.Pow.{pow_mono, pow_pos}
use lib.Bits.{bit_and, and_step, and_shr}
use Rattle.fabric.specs.Labels.{size, bit}
use Rattle.fabric.specs.Links.{Code, lands}
use Rattle.fabric.proofs.Bits.{bit_lt, bit_of_low, agree_by_bits, agree_below}
use Rattle.fabric.proofs.Links.{each_code, minus_then_plus, plus_then_minus}
use Rattle.notices.specs.declared.Notice.{Notice}
use Rattle.notices.specs.declared.Target.TheVariants.{Links, Switch, Pattern}
use Rattle.notices.specs.Targets.{set_has, Input, target_names}
use Rattle.notices.specs.Notices.{names}
use Rattle.table.proofs.Checks.{both_hold}

-- "Links, kind 1: a stage below n, a switch and a set"
pub links_names : (n : ℕ) (x : Notice) (stage switch s i j c : ℕ) → x.target ≡ Links stage switch s
    → (names n x i j c ≡ true) ↔ ((i ≡ stage) × (j ≡ switch) × (set_has s c ≡ true))
links_names n x stage switch s i j c is =
    let o = both_hold (eqb i stage && eqb j switch) (set_has s c) in
    let p = both_hold (eqb i stage) (eqb j switch) in
    rw is (
      (λ e. let w = o.0 e in let v = p.0 w.0 in (eqb-true i stage v.0, eqb-true j switch v.1, w.1)),
      (λ w. o.1 (p.1 (eq-eqb i stage w.0, eq-eqb j switch w.1), w.2)),
    )

-- "plus and minus land on one switch. They are two links all the same, and each is stopped by itself": at stage n-1 as at every other
pub stopped_separately : (n : ℕ) (x y : Notice) (stage switch : ℕ) → x.target ≡ Links stage switch 2 → y.target ≡ Links stage switch 4
    → (names n x stage switch 1 ≡ true)
    × (names n x stage switch 2 ≡ false)
    × (names n y stage switch 2 ≡ true)
    × (names n y stage switch 1 ≡ false)
stopped_separately n x y stage switch plus minus =
    let e = eq-eqb stage stage refl in
    let f = eq-eqb switch switch refl in
    (rw (plus, e, f), rw (plus, e, f), rw (minus, e, f), rw (minus, e, f))

-- docs/RULES.md, 'Notices': "In column 0, where no link ends, it names the three links of stage 0 that leave the switch"
pub column_0_names_outputs : (n : ℕ) (x : Notice) (w i j c : ℕ) → x.target ≡ Switch 0 w → (names n x i j c ≡ true) ↔ ((i ≡ 0) × (j ≡ w))
column_0_names_outputs n x w i j c is =
    let o = both_hold (eqb i 0) (eqb j w) in
    rw is ((λ e. let v = o.0 e in (eqb-true i 0 v.0, eqb-true j w v.1)), (λ v. o.1 (eq-eqb i 0 v.0, eq-eqb j w v.1)))

-- they are what a links notice with all three of them names
pub column_0_as_links : (n w i j c : ℕ) → Code c → target_names n (Switch 0 w) i j c ≡ target_names n (Links 0 w 7) i j c
column_0_as_links n w i j = each_code (λ c. target_names n (Switch 0 w) i j c ≡ target_names n (Links 0 w 7) i j c) whole whole whole
  where
    all : (b : Bool) → b ≡ (b && true)
    all true = refl
    all false = refl

    whole : (eqb i 0 && eqb j w) ≡ (eqb i 0 && eqb j w && true)
    whole = all (eqb i 0 && eqb j w)

-- "Only column 0 is treated so.": before, this was what a switch notice of any column named
pub other_columns_as_before : (n : ℕ) (x : Notice) (column w i j c : ℕ) → x.target ≡ Switch column w → (column ≡ 0 → ⊥)
    → names n x i j c ≡ (eqb (i + 1) column && eqb (lands n i c j) w)
other_columns_as_before n x column w i j c is above = rw (is, ne_eqb column 0 above)

-- no second meaning: whatever names these links in column 0, and elsewhere what was named before, is what a switch notice names
pub switch_names_once : (n : ℕ) (f : ℕ → ℕ → ℕ → ℕ → ℕ → Bool)
    → ((w i j c : ℕ) → (f 0 w i j c ≡ true) ↔ ((i ≡ 0) × (j ≡ w)))
    → ((column w i j c : ℕ) → (column ≡ 0 → ⊥) → f column w i j c ≡ (eqb (i + 1) column && eqb (lands n i c j) w))
    → (column w i j c : ℕ) → f column w i j c ≡ target_names n (Switch column w) i j c
switch_names_once n f zeroth others column w i j c = go (ℕ_discrete column 0)
  where
    same : (a b : Bool) → (a ≡ true → b ≡ true) → (b ≡ true → a ≡ true) → a ≡ b
    same true b to back = sym (to refl)
    same false true to back = back refl
    same false false to back = refl

    ours : (names n (record { number = 1; target = Switch 0 w; class = 0 }) i j c ≡ true) ↔ ((i ≡ 0) × (j ≡ w))
    ours = column_0_names_outputs n (record { number = 1; target = Switch 0 w; class = 0 }) w i j c refl

    go : Dec (column ≡ 0) → f column w i j c ≡ target_names n (Switch column w) i j c
    go (yes e) = rw e (same (f 0 w i j c) (target_names n (Switch 0 w) i j c) (λ h. ours.1 ((zeroth w i j c).0 h)) (λ h. (zeroth w i j c).1 (ours.0 h)))
    go (no e) = others column w i j c e ∙ sym (other_columns_as_before n (record { number = 1; target = Switch column w; class = 0 }) column w i j c refl e)

-- in such a column a switch notice names links of the stage before it alone
pub switch_names_before : (n : ℕ) (x : Notice) (column w i j c : ℕ) → x.target ≡ Switch column w → (column ≡ 0 → ⊥) → names n x i j c ≡ true → i + 1 ≡ column
switch_names_before n x column w i j c is above e =
    eqb-true (i + 1) column ((both_hold (eqb (i + 1) column) (eqb (lands n i c j) w)).0 (rw (other_columns_as_before n x column w i j c is above) at e)).0

-- and it names the input links that docs/RULES.md lists
module _ (n i w j : ℕ) (stage : i < n) (to : w < size n) (from : j < size n) where
  pub lands_inputs : (c : ℕ) → Code c → (lands n i c j ≡ w) ↔ Input n i w j c
  lands_inputs =
      each_code
      (λ c. (lands n i c j ≡ w) ↔ Input n i w j c)
      ((λ e. inl (refl, e)), (λ v. ⊎_elim (λ u. u.1) (λ u. ⊎_elim (λ r. absurd (omega arith)) (λ r. absurd (omega arith)) u) v)) (
        (λ e. inr (inl (refl, sym (plus_then_minus n i stage j from) ∙ ap (lands n i 2) e))),
        (λ v. ⊎_elim (λ u. absurd (omega arith)) (λ u. ⊎_elim (λ r. ap (lands n i 1) r.1 ∙ minus_then_plus n i stage w to) (λ r. absurd (omega arith)) u) v),
      ) (
        (λ e. inr (inr (refl, sym (minus_then_plus n i stage j from) ∙ ap (lands n i 1) e))),
        (λ v. ⊎_elim (λ u. absurd (omega arith)) (λ u. ⊎_elim (λ r. absurd (omega arith)) (λ r. ap (lands n i 2) r.1 ∙ plus_then_minus n i stage w to) u) v),
      )

  pub switch_names_inputs : (x : Notice) (c : ℕ) → x.target ≡ Switch (i + 1) w → Code c → (names n x i j c ≡ true) ↔ Input n i w j c
  switch_names_inputs x c is h =
      let o = both_hold (eqb (i + 1) (i + 1)) (eqb (lands n i c j) w) in
      let l = lands_inputs c h in
      rw (other_columns_as_before n x (i + 1) w i j c is (λ e. omega arith))
      ((λ e. l.0 (eqb-true (lands n i c j) w (o.0 e).1)), (λ v. o.1 (eq-eqb (i + 1) (i + 1) refl, eq-eqb (lands n i c j) w (l.1 v))))

-- bits of two numbers under `&`
bit_of_and : (k a b : ℕ) → bit k (bit_and a b) ≡ min (bit k a) (bit k b)
bit_of_and k a b =
    let x : ℕ = a / 2 ^ k in
    let y : ℕ = b / 2 ^ k in
    let s = and_step x y in
    let l : min (x % 2) (y % 2) < 2 = omega arith in
    ap (λ (z : ℕ). z % 2) (and_shr a b k) ∙ omega arith

-- numbers with the same bits are one
pub below_power : (x : ℕ) → x < 2 ^ x
below_power zero = omega arith
below_power (suc x) = let h = below_power x in let p = pow-suc 2 x in omega arith

same_bits : (x y : ℕ) → ((k : ℕ) → bit k x ≡ bit k y) → x ≡ y
same_bits x y h =
    let m : ℕ = x + y in
    let p = below_power x in
    let q = below_power y in
    let r : 2 ^ x ≤ 2 ^ m = pow_mono (omega arith) in
    let s : 2 ^ y ≤ 2 ^ m = pow_mono (omega arith) in
    agree_below m x y (omega arith) (omega arith) (agree_by_bits m x y (λ k l. h k))

-- "the value has ones only where the mask has"
pub value_in_mask : (value mask : ℕ) → (bit_and value mask ≡ value) ↔ ((k : ℕ) → bit k value ≡ 1 → bit k mask ≡ 1)
value_in_mask value mask = (there, back)
  where
    there : bit_and value mask ≡ value → (k : ℕ) → bit k value ≡ 1 → bit k mask ≡ 1
    there e k h =
        let a = bit_of_and k value mask in
        let b : bit k (bit_and value mask) ≡ bit k value = ap (bit k) e in
        let l = bit_lt k mask in
        omega arith

    back : ((k : ℕ) → bit k value ≡ 1 → bit k mask ≡ 1) → bit_and value mask ≡ value
    back h = same_bits (bit_and value mask) value (λ k. at k (ℕ_discrete (bit k value) 1))
      where
        at : (k : ℕ) → Dec (bit k value ≡ 1) → bit k (bit_and value mask) ≡ bit k value
        at k (yes e) = let a = bit_of_and k value mask in let m = h k e in omega arith
        at k (no e) = let a = bit_of_and k value mask in let l = bit_lt k value in let z : bit k value ≡ 0 = omega arith in omega arith

-- "The mask's ones lie in the low n bits"
pub mask_below : (n mask : ℕ) → (mask < size n) ↔ ((k : ℕ) → n ≤ k → bit k mask ≡ 0)
mask_below n mask = (there, back)
  where
    there : mask < size n → (k : ℕ) → n ≤ k → bit k mask ≡ 0
    there h k l =
        let p : 2 ^ n ≤ 2 ^ k = pow_mono l in
        ap (λ (x : ℕ). x % 2) (div-eq_of_lt {n = mask} {m = 2 ^ k} (omega arith))

    back : ((k : ℕ) → n ≤ k → bit k mask ≡ 0) → mask < size n
    back h = low (same_bits (mask % 2 ^ n) mask (λ k. at k (dec_lt k n)))
      where
        small : mask % 2 ^ n < 2 ^ n
        small = mod-lt mask (pow_pos n)

        at : (k : ℕ) → Dec (k < n) → bit k (mask % 2 ^ n) ≡ bit k mask
        at k (yes l) = bit_of_low k n mask l
        at k (no l) =
            let p : 2 ^ n ≤ 2 ^ k = pow_mono {i = n} {j = k} (omega arith) in
            let s = small in
            ap (λ (x : ℕ). x % 2) (div-eq_of_lt {n = mask % 2 ^ n} {m = 2 ^ k} (omega arith)) ∙ sym (h k (omega arith))

        low : mask % 2 ^ n ≡ mask → mask < size n
        low e = let s = small in omega arith

-- "It names the links of the set at every switch that has the value's bits where the mask has ones."
pub under_mask : (value mask j : ℕ) → bit_and value mask ≡ value → (bit_and j mask ≡ value) ↔ ((k : ℕ) → bit k mask ≡ 1 → bit k j ≡ bit k value)
under_mask value mask j within = (there, back)
  where
    there : bit_and j mask ≡ value → (k : ℕ) → bit k mask ≡ 1 → bit k j ≡ bit k value
    there e k m =
        let a = bit_of_and k j mask in
        let b : bit k (bit_and j mask) ≡ bit k value = ap (bit k) e in
        let l = bit_lt k j in
        omega arith

    back : ((k : ℕ) → bit k mask ≡ 1 → bit k j ≡ bit k value) → bit_and j mask ≡ value
    back h = same_bits (bit_and j mask) value (λ k. at k (ℕ_discrete (bit k mask) 1))
      where
        at : (k : ℕ) → Dec (bit k mask ≡ 1) → bit k (bit_and j mask) ≡ bit k value
        at k (yes m) = let a = bit_of_and k j mask in let e = h k m in let l = bit_lt k j in omega arith
        at k (no m) =
            let a = bit_of_and k j mask in
            let b = bit_of_and k value mask in
            let c : bit k (bit_and value mask) ≡ bit k value = ap (bit k) within in
            let l = bit_lt k mask in
            let z : bit k mask ≡ 0 = omega arith in
            omega arith

pub pattern_names_exactly : (n : ℕ) (x : Notice) (stage value mask s i j c : ℕ) → x.target ≡ Pattern stage value mask s → bit_and value mask ≡ value
    → (names n x i j c ≡ true) ↔ ((i ≡ stage) × ((k : ℕ) → bit k mask ≡ 1 → bit k j ≡ bit k value) × (set_has s c ≡ true))
pattern_names_exactly n x stage value mask s i j c is within =
    let o = both_hold (eqb i stage && eqb (bit_and j mask) value) (set_has s c) in
    let p = both_hold (eqb i stage) (eqb (bit_and j mask) value) in
    let u = under_mask value mask j within in
    rw is (
      (λ e. let w = o.0 e in let v = p.0 w.0 in (eqb-true i stage v.0, u.0 (eqb-true (bit_and j mask) value v.1), w.1)),
      (λ w. o.1 (p.1 (eq-eqb i stage w.0, eq-eqb (bit_and j mask) value (u.1 w.1)), w.2)),
    )
