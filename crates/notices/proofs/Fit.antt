-- What filing asks of a notice of each target, in the terms of docs/RULES.md: 4, 5 and 6, each exactly where its line holds.
use mathlib.Core.Path.{◌≡◌, refl, sym, ap, ◌∙◌}
use mathlib.Core.Bool.{Bool, true, false, not, ◌||◌}
use mathlib.Core.List.{[], ◌∷◌}
use mathlib.Core.Logic.{◌↔◌}
use Prim.Native.Nat.{ℕ, zero, suc, ◌*◌, ◌/◌, ◌%◌, ◌^◌, ◌≤◌, ◌<◌}
use native.Mathlib.Nat.{div-div-eq-div-mul, pow-suc}
use native.Mathlib.Decide.{ℕ_discrete, dec_lt}
use native.Mathlib.Omega.{arith}
use borrow.Author.Tests.{le-ltb, lt-leb, ltb-false, leb-false, eqb-true, not-false}
use lib.Dec.{eqb}
use lib.Bits.{bit_and}
use lib.Count.{ones, ones_in, ones_step}
use Rattle.table.proofs.Checks.{neither, neither_of, equal}
use Rattle.table.specs.Checks.{◌below◌, ◌not_below◌}
use Rattle.fabric.specs.Labels.{size, bit}
use Rattle.fabric.proofs.Bits.{bit_lt}
use Rattle.notices.specs.declared.Notice.{Notice}
use Rattle.notices.specs.declared.Target.{Target}
use Rattle.notices.specs.declared.Target.TheVariants.{Links, Switch, Pattern}
use Rattle.notices.specs.Targets.{bad_set, target_bad}
use Rattle.notices.specs.Classes.{bad_class}
use Rattle.notices.specs.Notices.{outside_fabric, bad_field, too_wide, unfit}
use Rattle.notices.proofs.Classes.{class_within}
use Rattle.notices.proofs.Named.{below_power, mask_below, value_in_mask}

-- two tests that both fail
both_fail : (a b : Bool) → ((a || b) ≡ false) ↔ ((a ≡ false) × (b ≡ false))
both_fail a b = ((λ e. neither a b e), (λ w. neither_of a b w.0 w.1))

-- a notice is fit where 4, 5 and 6 all pass it
pub all_pass : (n : ℕ) (x : Notice) → (unfit n x ≡ false) ↔ ((outside_fabric n x ≡ false) × (bad_field n x ≡ false) × (too_wide x ≡ false))
all_pass n x =
    let o = both_fail (outside_fabric n x || bad_field n x) (too_wide x) in
    let p = both_fail (outside_fabric n x) (bad_field n x) in
    ((λ e. let w = o.0 e in let v = p.0 w.0 in (v.0, v.1, w.1)), (λ w. o.1 (p.1 (w.0, w.1), w.2)))

-- and 5 passes it where it passes its target and its class
fields_pass : (n : ℕ) (x : Notice) → (bad_field n x ≡ false) ↔ ((target_bad n x.target ≡ false) × (x.class ≤ 1))
fields_pass n x =
    let o = both_fail (target_bad n x.target) (bad_class x.class) in
    let p = class_within x.class in
    ((λ e. ((o.0 e).0, p.0 (o.0 e).1)), (λ w. o.1 (w.0, p.1 w.1)))

-- 5: "a set of 0 or above 7"
pub set_within : (s : ℕ) → (bad_set s ≡ false) ↔ ((1 ≤ s) × (s ≤ 7))
set_within s =
    let o = both_fail (s below 1) (7 below s) in
    ((λ e. (ltb-false s 1 (o.0 e).0, ltb-false 7 s (o.0 e).1)), (λ w. o.1 (le-ltb s 1 w.0, le-ltb 7 s w.1)))

-- "The mask's ones lie in the low n bits": every one of the mask does
pub ones_below : (n mask : ℕ) → (mask < 2 ^ n) ↔ ((k : ℕ) → bit k mask ≡ 1 → k < n)
ones_below n mask =
    let m = mask_below n mask in (
      (λ h k e. low (m.0 h) k e (dec_lt k n)),
      (λ h. m.1 (λ k l. high h k l)),
    )
  where
    low : ((k : ℕ) → n ≤ k → bit k mask ≡ 0) → (k : ℕ) → bit k mask ≡ 1 → Dec (k < n) → k < n
    low h k e (yes l) = l
    low h k e (no l) = let z = h k (omega arith) in absurd (omega arith)

    high : ((k : ℕ) → bit k mask ≡ 1 → k < n) → (k : ℕ) → n ≤ k → bit k mask ≡ 0
    high h k l = go (ℕ_discrete (bit k mask) 1)
      where
        go : Dec (bit k mask ≡ 1) → bit k mask ≡ 0
        go (yes e) = let g = h k e in absurd (omega arith)
        go (no e) = let g = bit_lt k mask in omega arith

-- one bit further up is the same bit of the half
bit_of_half : (k m : ℕ) → bit (suc k) m ≡ bit k (m / 2)
bit_of_half k m =
    let e : 2 ^ suc k ≡ 2 * 2 ^ k = let p = pow-suc 2 k in omega arith in
    ap (λ (x : ℕ). m / x % 2) e ∙ ap (λ (x : ℕ). x % 2) (sym (div-div-eq-div-mul m 2 (2 ^ k)))

-- a number below 2^d has a one exactly where some bit is one
some_one : (d m : ℕ) → m < 2 ^ d → 1 ≤ ones m → (k : ℕ) × (bit k m ≡ 1)
unfolding ones
some_one zero m h o = let z : m ≡ 0 = omega arith in absurd (few (ap ones z))
  where
    few : ones m ≡ 0 → ⊥
    few e = omega arith
some_one (suc d) m h o = go (ℕ_discrete (m % 2) 1) (some_one d (m / 2))
  where
    go : Dec (m % 2 ≡ 1) → (m / 2 < 2 ^ d → 1 ≤ ones (m / 2) → (k : ℕ) × (bit k (m / 2) ≡ 1)) → (k : ℕ) × (bit k m ≡ 1)
    go (yes e) ih = (0, omega arith)
    go (no e) ih =
        let s = ones_step m in
        let p = pow-suc 2 d in
        let w = ih (omega arith) (omega arith) in
        (suc w.0, bit_of_half w.0 m ∙ w.1)

one_counted : (k m : ℕ) → bit k m ≡ 1 → 1 ≤ ones m
one_counted zero m e = let s = ones_step m in let o : m % 2 ≡ 1 = omega arith in omega arith
one_counted (suc k) m e = let s = ones_step m in let i = one_counted k (m / 2) (sym (bit_of_half k m) ∙ e) in omega arith

-- and two exactly where two different bits are ones
two_found : (d m : ℕ) → m < 2 ^ d → 2 ≤ ones m → (j : ℕ) × (k : ℕ) × (j < k) × (bit j m ≡ 1) × (bit k m ≡ 1)
unfolding ones
two_found zero m h o = let z : m ≡ 0 = omega arith in absurd (few (ap ones z))
  where
    few : ones m ≡ 0 → ⊥
    few e = omega arith
two_found (suc d) m h o = go (ℕ_discrete (m % 2) 1) (some_one d (m / 2)) (two_found d (m / 2))
  where
    go : Dec (m % 2 ≡ 1)
        → (m / 2 < 2 ^ d → 1 ≤ ones (m / 2) → (k : ℕ) × (bit k (m / 2) ≡ 1))
        → (m / 2 < 2 ^ d → 2 ≤ ones (m / 2) → (j : ℕ) × (k : ℕ) × (j < k) × (bit j (m / 2) ≡ 1) × (bit k (m / 2) ≡ 1))
        → (j : ℕ) × (k : ℕ) × (j < k) × (bit j m ≡ 1) × (bit k m ≡ 1)
    go (yes e) one ih =
        let s = ones_step m in
        let p = pow-suc 2 d in
        let w = one (omega arith) (omega arith) in
        (0, suc w.0, omega arith, omega arith, bit_of_half w.0 m ∙ w.1)
    go (no e) one ih =
        let s = ones_step m in
        let p = pow-suc 2 d in
        let w = ih (omega arith) (omega arith) in
        (suc w.0, suc w.1, omega (arith, w.2), bit_of_half w.0 m ∙ w.3, bit_of_half w.1 m ∙ w.4)

two_counted : (j k m : ℕ) → j < k → bit j m ≡ 1 → bit k m ≡ 1 → 2 ≤ ones m
two_counted j zero m l e f = absurd (omega arith)
two_counted zero (suc k) m l e f =
    let s = ones_step m in
    let o : m % 2 ≡ 1 = omega arith in
    let i = one_counted k (m / 2) (sym (bit_of_half k m) ∙ f) in
    omega arith
two_counted (suc j) (suc k) m l e f =
    let s = ones_step m in
    let i = two_counted j k (m / 2) (omega arith) (sym (bit_of_half j m) ∙ e) (sym (bit_of_half k m) ∙ f) in
    omega arith

pub two_ones : (mask : ℕ) → (2 ≤ ones mask) ↔ ((j : ℕ) × (k : ℕ) × (j < k) × (bit j mask ≡ 1) × (bit k mask ≡ 1))
two_ones mask = ((λ h. two_found mask mask (below_power mask) h), (λ w. two_counted w.0 w.1 mask w.2 w.3 w.4))

-- "Links, kind 1: a stage below n, a switch and a set. The set is a sum, of 1 for straight, 2 for plus and 4 for minus, and lies between 1 and 7"
module _ (n : ℕ) (x : Notice) (stage switch s : ℕ) (is : x.target ≡ Links stage switch s) where
  -- 4: "a stage, column or switch that the fabric does not have"
  pub links_in_fabric : (outside_fabric n x ≡ false) ↔ ((stage < n) × (switch < 2 ^ n))
  links_in_fabric =
      let o = both_fail (stage not_below n) (switch not_below size n) in
      rw is ((λ e. (leb-false n stage (o.0 e).0, leb-false (size n) switch (o.0 e).1)), (λ w. o.1 (lt-leb n stage w.0, lt-leb (size n) switch w.1)))

  -- 5: "a set of 0 or above 7", or a class above 1
  pub links_in_fields : (bad_field n x ≡ false) ↔ ((1 ≤ s) × (s ≤ 7) × (x.class ≤ 1))
  links_in_fields =
      let two = fields_pass n x in
      let within : (target_bad n x.target ≡ false) ↔ ((1 ≤ s) × (s ≤ 7)) = rw is (set_within s) in
      ((λ e. let w = two.0 e in let b = within.0 w.0 in (b.0, b.1, w.1)), (λ w. two.1 (within.1 (w.0, w.1), w.2)))

  -- only a pattern can be too wide
  pub links_narrow : too_wide x ≡ false
  links_narrow = rw is refl

  pub links_fit : (unfit n x ≡ false) ↔ ((stage < n) × (switch < 2 ^ n) × (1 ≤ s) × (s ≤ 7) × (x.class ≤ 1))
  links_fit =
      let three = all_pass n x in
      let f = links_in_fabric in
      let g = links_in_fields in (
        (λ e. let w = three.0 e in let a = f.0 w.0 in let b = g.0 w.1 in (a.0, a.1, b.0, b.1, b.2)),
        (λ w. three.1 (f.1 (w.0, w.1), g.1 (w.2, w.3, w.4), links_narrow)),
      )

-- "Switch, kind 2: a column from 0 to n, and a switch j"
module _ (n : ℕ) (x : Notice) (column switch : ℕ) (is : x.target ≡ Switch column switch) where
  pub switch_in_fabric : (outside_fabric n x ≡ false) ↔ ((column ≤ n) × (switch < 2 ^ n))
  switch_in_fabric =
      let o = both_fail (n below column) (switch not_below size n) in
      rw is ((λ e. (ltb-false n column (o.0 e).0, leb-false (size n) switch (o.0 e).1)), (λ w. o.1 (le-ltb n column w.0, lt-leb (size n) switch w.1)))

  -- a switch has no field but its class that 5 judges
  pub switch_in_fields : (bad_field n x ≡ false) ↔ (x.class ≤ 1)
  switch_in_fields =
      let two = fields_pass n x in
      let none : target_bad n x.target ≡ false = rw is refl in
      ((λ e. (two.0 e).1), (λ h. two.1 (none, h)))

  pub switch_narrow : too_wide x ≡ false
  switch_narrow = rw is refl

  pub switch_fit : (unfit n x ≡ false) ↔ ((column ≤ n) × (switch < 2 ^ n) × (x.class ≤ 1))
  switch_fit =
      let three = all_pass n x in
      let f = switch_in_fabric in
      let g = switch_in_fields in (
        (λ e. let w = three.0 e in let a = f.0 w.0 in (a.0, a.1, g.0 w.1)),
        (λ w. three.1 (f.1 (w.0, w.1), g.1 w.2, switch_narrow)),
      )

-- "Pattern, kind 3: a stage below n, a value, a mask and a set"; "The mask's ones lie in the low n bits, and the value has ones only where the mask has"; two
-- ones or more
module _ (n : ℕ) (x : Notice) (stage value mask s : ℕ) (is : x.target ≡ Pattern stage value mask s) where
  -- "(the value of a pattern is left to 5)"
  pub pattern_in_fabric : (outside_fabric n x ≡ false) ↔ (stage < n)
  pattern_in_fabric = rw is ((λ e. leb-false n stage e), (λ h. lt-leb n stage h))

  -- 5: "a set of 0 or above 7, a one of the mask at bit n or higher, a value with a one outside of the mask"
  pattern_in_target : (target_bad n x.target ≡ false)
      ↔ ((1 ≤ s) × (s ≤ 7) × ((k : ℕ) → bit k mask ≡ 1 → k < n) × ((k : ℕ) → bit k value ≡ 1 → bit k mask ≡ 1))
  pattern_in_target =
      let o = both_fail (bad_set s || mask not_below size n) (not (eqb (bit_and value mask) value)) in
      let p = both_fail (bad_set s) (mask not_below size n) in
      rw is (
        (λ e.
            let w = o.0 e in
            let v = p.0 w.0 in
            let u = (set_within s).0 v.0 in
            (u.0, u.1, (ones_below n mask).0 (leb-false (size n) mask v.1), (value_in_mask value mask).0 (eqb-true (bit_and value mask) value (not-false (eqb (bit_and value mask) value) w.1)))),
        (λ w. o.1 (p.1 ((set_within s).1 (w.0, w.1), lt-leb (size n) mask ((ones_below n mask).1 w.2)), equal ((value_in_mask value mask).1 w.3))),
      )

  -- or a class above 1
  pub pattern_in_fields : (bad_field n x ≡ false)
      ↔ ((1 ≤ s) × (s ≤ 7) × ((k : ℕ) → bit k mask ≡ 1 → k < n) × ((k : ℕ) → bit k value ≡ 1 → bit k mask ≡ 1) × (x.class ≤ 1))
  pattern_in_fields =
      let two = fields_pass n x in
      let within = pattern_in_target in (
        (λ e. let w = two.0 e in let b = within.0 w.0 in (b.0, b.1, b.2, b.3, w.1)),
        (λ w. two.1 (within.1 (w.0, w.1, w.2, w.3), w.4)),
      )

  -- 6: "A mask of no ones or of one is too wide": it is not where two different places of the mask are ones
  pub pattern_narrow : (too_wide x ≡ false) ↔ ((j : ℕ) × (k : ℕ) × (j < k) × (bit j mask ≡ 1) × (bit k mask ≡ 1))
  pattern_narrow =
      let o = two_ones mask in
      rw is ((λ e. o.0 (ltb-false (ones mask) 2 e)), (λ w. le-ltb (ones mask) 2 (o.1 w)))

  pub pattern_fit : (unfit n x ≡ false)
      ↔ ((stage < n)
      × (1 ≤ s)
      × (s ≤ 7)
      × ((k : ℕ) → bit k mask ≡ 1 → k < n)
      × ((k : ℕ) → bit k value ≡ 1 → bit k mask ≡ 1)
      × (x.class ≤ 1)
      × ((j : ℕ) × (k : ℕ) × (j < k) × (bit j mask ≡ 1) × (bit k mask ≡ 1)))
  pattern_fit =
      let three = all_pass n x in
      let g = pattern_in_fields in (
        (λ e. let w = three.0 e in let b = g.0 w.1 in (pattern_in_fabric.0 w.0, b.0, b.1, b.2, b.3, b.4, pattern_narrow.0 w.2)),
        (λ w. three.1 (pattern_in_fabric.1 w.0, g.1 (w.1, w.2, w.3, w.4, w.5), pattern_narrow.1 w.6)),
      )

-- the filings of the worked example, n = 3: three notices that are accepted, and one that is refused with 6
abbrev filing : ℕ → Target → Notice
filing k t = record { number = k; target = t; class = 0 }

pub example_filings :
    unfit 3 (filing 7 (Links 0 1 4)) ∷ unfit 3 (filing 8 (Pattern 0 1 3 4)) ∷ unfit 3 (filing 10 (Switch 1 2)) ∷ too_wide (filing 9 (Pattern 0 1 1 7)) ∷ []
    ≡ false ∷ false ∷ false ∷ true ∷ []
unfolding ones ones_in
example_filings = refl

-- whatever its target, a notice that filing accepts is broken or busy
pub fit_class : (n : ℕ) (x : Notice) → unfit n x ≡ false → x.class ≤ 1
fit_class n x e = ((fields_pass n x).0 ((all_pass n x).0 e).1).1
