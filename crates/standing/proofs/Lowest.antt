-- The number of the first notice that a test picks, over any test: 0 exactly where none is picked, and the lowest where the list is by rising number.
use mathlib.Core.Path.{◌≡◌, refl, sym, ap, ◌∙◌}
use mathlib.Core.Bool.{Bool, true, false, cond, not, ◌||◌, true≢false}
use mathlib.Core.List.Memᴰ
use mathlib.Core.List.{List, [], ◌∷◌, Memᴰ}
use mathlib.Core.Logic.{◌⊎◌, inl, inr, ◌↔◌}
use Prim.Native.Nat.{ℕ, ◌≤◌, ◌<◌}
use native.Mathlib.Decide.{ℕ_discrete}
use native.Mathlib.Omega.{arith}
use borrow.Author.Tests.{ne_eqb}
use lib.Dec.{eqb}
use Rattle.notices.specs.declared.Notice.{Notice}
use Rattle.standing.specs.Picked.{Picked, Some, LowestNumber, some, lowest}
use Rattle.standing.specs.Rising.{Filed}
use Rattle.standing.proofs.Picked.{lowest_cons}
use Rattle.standing.proofs.Members.{all_above}

module _ (test : Notice → Bool) where
  -- the first notice of a list is picked, or the number is one of the others'
  pub lowest_here : (x : Notice) (xs : List Notice) → test x ≡ true → lowest test (x ∷ xs) ≡ x.number
  lowest_here x xs e = rw e

  pub lowest_later : (x : Notice) (xs : List Notice) → test x ≡ false → lowest test (x ∷ xs) ≡ lowest test xs
  lowest_later x xs e = rw e

  pub lowest_nothing : lowest test [] ≡ 0
  lowest_nothing = refl

  -- a number other than 0 is that of a notice that is picked
  pub lowest_picks : (l : List Notice) → (lowest test l ≡ 0 → ⊥) → (x : Notice) × Memᴰ x l × (test x ≡ true) × (x.number ≡ lowest test l)
  lowest_picks [] h = absurd (h refl)
  lowest_picks (y ∷ ys) h = go (test y) refl (lowest_picks ys)
    where
      go : (b : Bool) → test y ≡ b
          → ((lowest test ys ≡ 0 → ⊥) → (x : Notice) × Memᴰ x ys × (test x ≡ true) × (x.number ≡ lowest test ys))
          → (x : Notice) × Memᴰ x (y ∷ ys) × (test x ≡ true) × (x.number ≡ lowest test (y ∷ ys))
      go true e ih = (y, Memᴰ.head refl, e, rw e)
      go false e ih =
          let w = ih (rw e at h) in
          (w.0, Memᴰ.tail w.1, w.2, rw e w.3)

  module _ (bad : Notice → Bool) where
    -- none that is picked has a lower number
    pub lowest_least : (m : ℕ) (l : List Notice) (x : Notice) → Filed bad m l → Memᴰ x l → test x ≡ true → (m < lowest test l) × (lowest test l ≤ x.number)
    unfolding Filed
    lowest_least m [] x f h e = absurd (Memᴰ.not-nil h)
    lowest_least m (y ∷ ys) x f h e = go (test y) refl (Memᴰ.cases_cons h) (lowest_least y.number ys x f.2)
      where
        go : (b : Bool) → test y ≡ b → (x ≡ y) ⊎ Memᴰ x ys
            → (Memᴰ x ys → test x ≡ true → (y.number < lowest test ys) × (lowest test ys ≤ x.number))
            → (m < lowest test (y ∷ ys)) × (lowest test (y ∷ ys) ≤ x.number)
        go true q (inl p) ih = let r = ap (λ (z : Notice). z.number) p in rw q (f.0, omega arith)
        go true q (inr w) ih = let r = all_above bad y.number ys x f.2 w in rw q (f.0, omega arith)
        go false q (inl p) ih = absurd (true≢false (sym e ∙ ap test p ∙ q))
        go false q (inr w) ih = let r = ih w e in let g = f.0 in rw q (omega arith, r.1)

    -- 0 where none is picked, and only there
    pub lowest_none : (l : List Notice) → Filed bad 0 l → (lowest test l ≡ 0) ↔ (Some test l → ⊥)
    lowest_none l f = (
      (λ e w. let r = lowest_least 0 l w.0 f w.1 w.2 in omega arith),
      (λ h. none h (ℕ_discrete (lowest test l) 0)),
    )
      where
        none : (Some test l → ⊥) → Dec (lowest test l ≡ 0) → lowest test l ≡ 0
        none h (yes e) = e
        none h (no e) = let w = lowest_picks l e in absurd (h (w.0, w.1, w.2))

    pub lowest_some : (l : List Notice) → Filed bad 0 l → (lowest test l ≡ 0 → ⊥) ↔ Some test l
    lowest_some l f = ((λ e. let w = lowest_picks l e in (w.0, w.1, w.2)), (λ w e. (lowest_none l f).0 e w))

    -- among notices by rising number it is the lowest of those that are picked, and where there is a lowest it is that
    pub lowest_exactly : (k : ℕ) (l : List Notice) → Filed bad 0 l → LowestNumber (Picked test l) k ↔ ((lowest test l ≡ k) × (1 ≤ k))
    lowest_exactly k l f = (
      (λ w.
          let at = w.numbered in
          let r = lowest_least 0 l w.notice f w.among.0 w.among.1 in
          let y = lowest_picks l (λ e. omega arith) in
          let first = y.3 in
          let h = w.least y.0 (y.1, y.2) in
          (omega arith, omega arith)),
      λ v.
          let e = v.0 in
          let some = v.1 in
          let y = lowest_picks l (λ z. omega arith) in
          record { notice = y.0; among = (y.1, y.2); numbered = y.3 ∙ e; least = λ x p. let r = lowest_least 0 l x f p.0 p.1 in omega arith },
    )

    -- the two tests agree
    pub lowest_tells : (k : ℕ) (l : List Notice) → Filed bad k l → not (eqb (lowest test l) 0) ≡ some test l
    unfolding Filed
    lowest_tells k [] f = refl
    lowest_tells k (x ∷ xs) f = ap (λ (m : ℕ). not (eqb m 0)) (lowest_cons test x xs) ∙ go (test x) (lowest_tells x.number xs f.2)
      where
        go : (b : Bool) → not (eqb (lowest test xs) 0) ≡ some test xs → not (eqb (cond b x.number (lowest test xs)) 0) ≡ (b || some test xs)
        go true ih = let h = f.0 in ap not (ne_eqb x.number 0 (λ e. omega arith))
        go false ih = ih

-- there is one lowest number, of whatever notices
pub lowest_number_once : (P : Notice → Type 0) (k m : ℕ) → LowestNumber P k → LowestNumber P m → k ≡ m
lowest_number_once P k m p q =
    let a = p.numbered in
    let b = q.numbered in
    let l = p.least q.notice q.among in
    let r = q.least p.notice p.among in
    omega arith

-- and it is that of the same notices, however they are told
pub lowest_number_as : {P Q : Notice → Type 0} {k : ℕ} → ((x : Notice) → P x → Q x) → ((x : Notice) → Q x → P x) → LowestNumber P k → LowestNumber Q k
lowest_number_as to back w = record { notice = w.notice; among = to w.notice w.among; numbered = w.numbered; least = λ x q. w.least x (back x q) }
