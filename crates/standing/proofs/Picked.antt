-- What a test picks from a list of notices, over any test.
use mathlib.Core.Path.{◌≡◌, refl, sym, ap, ap₂, ◌∙◌}
use mathlib.Core.Bool.{Bool, true, false, cond, ◌&&◌, ◌||◌, true≢false}
use mathlib.Core.List.Memᴰ
use mathlib.Core.List.{List, [], ◌∷◌, Memᴰ}
use mathlib.Core.Logic.{◌⊎◌, inl, inr, ⊎_elim, ◌↔◌}
use Prim.Native.Nat.{ℕ, suc, ◌≤◌}
use native.Mathlib.Omega.{arith}
use lib.ListN.{length}
use Rattle.std.specs.Prelude.{Some as Found, find, option_map, unwrap_or}
use Rattle.notices.specs.declared.Notice.{Notice}
use Rattle.standing.specs.Picked.{Some, some, lowest, those}

module _ (test : Notice → Bool) where
  -- what is picked from a list is its first notice or is picked from the others
  picked_of : (y : Notice) (ys : List Notice) → Some test (y ∷ ys) → (test y ≡ true) ⊎ Some test ys
  picked_of y ys w = ⊎_elim (λ e. inl (ap test (sym e) ∙ w.2)) (λ h. inr (w.0, h, w.2)) (Memᴰ.cases_cons w.1)

  pub some_exactly : (l : List Notice) → (some test l ≡ true) ↔ Some test l
  some_exactly [] = ((λ e. absurd (true≢false (sym e))), (λ w. absurd (Memᴰ.not-nil w.1)))
  some_exactly (y ∷ ys) = (there (test y) refl (some_exactly ys).0, (λ w. back (test y) refl (some_exactly ys).1 (picked_of y ys w)))
    where
      there : (b : Bool) → test y ≡ b → (some test ys ≡ true → Some test ys) → (b || some test ys) ≡ true → Some test (y ∷ ys)
      there true q ih e = (y, Memᴰ.head refl, q)
      there false q ih e = let w = ih e in (w.0, Memᴰ.tail w.1, w.2)

      back : (b : Bool) → test y ≡ b → (Some test ys → some test ys ≡ true) → (test y ≡ true) ⊎ Some test ys → (b || some test ys) ≡ true
      back true q ih w = refl
      back false q ih (inl e) = absurd (true≢false (sym e ∙ q))
      back false q ih (inr w) = ih w

  pub none_exactly : (l : List Notice) → (some test l ≡ false) ↔ ((x : Notice) → Memᴰ x l → test x ≡ false)
  none_exactly l = (there, (λ h. back h (some test l) refl))
    where
      there : some test l ≡ false → (x : Notice) → Memᴰ x l → test x ≡ false
      there e x m = go (test x) refl
        where
          go : (b : Bool) → test x ≡ b → b ≡ false
          go true q = sym ((some_exactly l).1 (x, m, q)) ∙ e
          go false q = refl

      back : ((x : Notice) → Memᴰ x l → test x ≡ false) → (b : Bool) → some test l ≡ b → b ≡ false
      back h true e = let w = (some_exactly l).0 e in sym w.2 ∙ h w.0 w.1
      back h false e = refl

  -- those that are picked
  pub those_exactly : (x : Notice) (l : List Notice) → Memᴰ x (those test l) ↔ (Memᴰ x l × (test x ≡ true))
  those_exactly x [] = ((λ h. absurd (Memᴰ.not-nil h)), (λ w. absurd (Memᴰ.not-nil w.0)))
  those_exactly x (y ∷ ys) =
      let ih = those_exactly x ys in
      (there (test y) refl ih.0, (λ w. back (test y) refl (λ h. ih.1 (h, w.1)) (Memᴰ.cases_cons w.0) w.1))
    where
      there : (b : Bool) → test y ≡ b → (Memᴰ x (those test ys) → Memᴰ x ys × (test x ≡ true))
          → Memᴰ x (cond b (y ∷ those test ys) (those test ys)) → Memᴰ x (y ∷ ys) × (test x ≡ true)
      there true q ih h = ⊎_elim (λ e. (Memᴰ.head e, ap test e ∙ q)) (λ v. (Memᴰ.tail (ih v).0, (ih v).1)) (Memᴰ.cases_cons h)
      there false q ih h = (Memᴰ.tail (ih h).0, (ih h).1)

      back : (b : Bool) → test y ≡ b → (Memᴰ x ys → Memᴰ x (those test ys))
          → (x ≡ y) ⊎ Memᴰ x ys → test x ≡ true → Memᴰ x (cond b (y ∷ those test ys) (those test ys))
      back true q ih (inl e) p = Memᴰ.head e
      back true q ih (inr h) p = Memᴰ.tail (ih h)
      back false q ih (inl e) p = absurd (true≢false (sym p ∙ ap test e ∙ q))
      back false q ih (inr h) p = ih h

  pub those_length : (l : List Notice) → length (those test l) ≤ length l
  those_length [] = omega arith
  those_length (y ∷ ys) = go (test y) (those_length ys)
    where
      go : (b : Bool) → length (those test ys) ≤ length ys → length (cond b (y ∷ those test ys) (those test ys)) ≤ suc (length ys)
      go true ih = omega arith
      go false ih = omega arith

  -- where each is picked, they are the list
  pub those_all : (l : List Notice) → ((x : Notice) → Memᴰ x l → test x ≡ true) → those test l ≡ l
  those_all [] h = refl
  those_all (y ∷ ys) h = rw (h y (Memᴰ.head refl)) (ap (λ (zs : List Notice). y ∷ zs) (those_all ys (λ x m. h x (Memᴰ.tail m))))

-- the number of the first notice of a list where that is picked, and otherwise that of the first among the others
pub lowest_cons : (test : Notice → Bool) (x : Notice) (xs : List Notice) → lowest test (x ∷ xs) ≡ cond (test x) x.number (lowest test xs)
lowest_cons test x xs = go (test x)
  where
    go : (b : Bool) → unwrap_or (option_map (λ (y : Notice). y.number) (cond b (Found x) (find test xs))) 0 ≡ cond b x.number (lowest test xs)
    go true = refl
    go false = refl

-- what a test picks from those that another picks: what both pick
module _ (one other : Notice → Bool) where
  abbrev pub both : Notice → Bool
  both x = one x && other x

  pub some_those : (l : List Notice) → some other (those one l) ≡ some both l
  some_those [] = refl
  some_those (y ∷ ys) = go (one y) (some_those ys)
    where
      go : (b : Bool) → some other (those one ys) ≡ some both ys → some other (cond b (y ∷ those one ys) (those one ys)) ≡ ((b && other y) || some both ys)
      go true ih = ap (λ (b : Bool). other y || b) ih
      go false ih = ih

  pub lowest_those : (l : List Notice) → lowest other (those one l) ≡ lowest both l
  lowest_those [] = refl
  lowest_those (y ∷ ys) = go (one y) (lowest_those ys) ∙ sym (lowest_cons both y ys)
    where
      go : (b : Bool) → lowest other (those one ys) ≡ lowest both ys
          → lowest other (cond b (y ∷ those one ys) (those one ys)) ≡ cond (b && other y) y.number (lowest both ys)
      go true ih = lowest_cons other y (those one ys) ∙ ap (λ (k : ℕ). cond (other y) y.number k) ih
      go false ih = ih

  pub those_those : (l : List Notice) → those other (those one l) ≡ those both l
  those_those [] = refl
  those_those (y ∷ ys) = go (one y) (those_those ys)
    where
      go : (b : Bool) → those other (those one ys) ≡ those both ys
          → those other (cond b (y ∷ those one ys) (those one ys)) ≡ cond (b && other y) (y ∷ those both ys) (those both ys)
      go true ih = ap (λ (zs : List Notice). cond (other y) (y ∷ zs) zs) ih
      go false ih = ih

-- tests that agree on a list's notices pick the same
pub those_same : (one other : Notice → Bool) (l : List Notice) → ((x : Notice) → Memᴰ x l → one x ≡ other x) → those one l ≡ those other l
those_same one other [] h = refl
those_same one other (y ∷ ys) h =
    ap₂ (λ (b : Bool) (zs : List Notice). cond b (y ∷ zs) zs) (h y (Memᴰ.head refl)) (those_same one other ys (λ x m. h x (Memᴰ.tail m)))

-- so it does not matter which of two tests picks first
pub those_turned : (one other : Notice → Bool) (l : List Notice) → those other (those one l) ≡ those one (those other l)
those_turned one other l =
    those_those one other l ∙ those_same (both one other) (both other one) l (λ x m. turned (one x) (other x)) ∙ sym (those_those other one l)
  where
    turned : (a b : Bool) → (a && b) ≡ (b && a)
    turned true true = refl
    turned true false = refl
    turned false true = refl
    turned false false = refl
