-- "in whatever order": a list is distinct where no two of its places hold one notice, and it stays so in any other order.
use mathlib.Core.Path.{◌≡◌, refl, sym, ap, ◌∙◌}
use mathlib.Core.List.Memᴰ
use mathlib.Core.List.{List, [], ◌∷◌, Memᴰ}
use mathlib.Core.Logic.{◌⊎◌, inl, inr, ⊎_elim, ◌↔◌}
use Prim.Native.Nat.{ℕ, zero, suc, ◌≤◌, ◌<◌}
use native.Mathlib.Omega.{arith}
use lib.ListN.{length, get_or}
use Rattle.notices.specs.declared.Notice.{Notice}
use Rattle.notices.specs.declared.Target.TheVariants.{Links}
use Rattle.standing.specs.Rising.{filler, Distinct, Reordered}

-- a notice of a list has a place there, and what a place holds is a notice of the list
pub place_of : (x d : Notice) (l : List Notice) → Memᴰ x l → (i : ℕ) × (i < length l) × (get_or l i d ≡ x)
place_of x d [] h = absurd (Memᴰ.not-nil h)
place_of x d (y ∷ ys) h = go (Memᴰ.cases_cons h) (place_of x d ys)
  where
    go : (x ≡ y) ⊎ Memᴰ x ys → (Memᴰ x ys → (i : ℕ) × (i < length ys) × (get_or ys i d ≡ x))
        → (i : ℕ) × (i < length (y ∷ ys)) × (get_or (y ∷ ys) i d ≡ x)
    go (inl e) ih = (0, omega arith, sym e)
    go (inr w) ih = let p = ih w in (suc p.0, omega (arith, p.1), p.2)

pub at_place : (d : Notice) (l : List Notice) (i : ℕ) → i < length l → Memᴰ (get_or l i d) l
at_place d [] i h = absurd (omega arith)
at_place d (y ∷ ys) zero h = Memᴰ.head refl
at_place d (y ∷ ys) (suc i) h = Memᴰ.tail (at_place d ys i (omega arith))

-- no two places of the list hold one notice
abbrev pub NoTwoAlike : Notice → List Notice → Type 0
NoTwoAlike d l = (i j : ℕ) → i < j → j < length l → get_or l i d ≡ get_or l j d → ⊥

pub distinct_places : (d : Notice) (l : List Notice) → Distinct l ↔ NoTwoAlike d l
unfolding Distinct
distinct_places d [] = ((λ u i j h l e. omega arith), (λ f. tt))
distinct_places d (x ∷ xs) = (there (distinct_places d xs).0, back (distinct_places d xs).1)
  where
    there : (Distinct xs → NoTwoAlike d xs) → Distinct (x ∷ xs) → NoTwoAlike d (x ∷ xs)
    there ih u i zero h l e = omega arith
    there ih u zero (suc j) h l e = let p : x ≡ get_or xs j d = e in u.0 (rw p (at_place d xs j (omega arith)))
    there ih u (suc i) (suc j) h l e = ih u.1 i j (omega arith) (omega arith) e

    back : (NoTwoAlike d xs → Distinct xs) → NoTwoAlike d (x ∷ xs) → Distinct (x ∷ xs)
    back ih f = (
      (λ m. let p = place_of x d xs m in f 0 (suc p.0) (omega arith) (omega (arith, p.1)) (sym p.2)),
      ih (λ i j h l e. f (suc i) (suc j) (omega arith) (omega arith) e),
    )

-- a list without one of its notices
rest_of : (x : Notice) (m : List Notice) → Memᴰ x m
    → (r : List Notice) × (length m ≡ suc (length r)) × ((z : Notice) → Memᴰ z m → (z ≡ x) ⊎ Memᴰ z r)
rest_of x [] h = absurd (Memᴰ.not-nil h)
rest_of x (y ∷ ys) h = go (Memᴰ.cases_cons h) (rest_of x ys)
  where
    go : (x ≡ y) ⊎ Memᴰ x ys
        → (Memᴰ x ys → (r : List Notice) × (length ys ≡ suc (length r)) × ((z : Notice) → Memᴰ z ys → (z ≡ x) ⊎ Memᴰ z r))
        → (r : List Notice) × (length (y ∷ ys) ≡ suc (length r)) × ((z : Notice) → Memᴰ z (y ∷ ys) → (z ≡ x) ⊎ Memᴰ z r)
    go (inl e) ih = (ys, refl, (λ z w. ⊎_elim (λ q. inl (q ∙ sym e)) (λ v. inr v) (Memᴰ.cases_cons w)))
    go (inr h) ih =
        let p = ih h in (
          y ∷ p.0,
          ap suc p.1,
          (λ z w.
              ⊎_elim
              (λ q. inr (Memᴰ.head q))
              (λ v. ⊎_elim (λ q. inl q) (λ u. inr (Memᴰ.tail u)) (p.2 z v))
              (Memᴰ.cases_cons w)),
        )

-- a list that has all notices of a distinct one is not shorter
pub no_shorter : (l m : List Notice) → Distinct l → ((x : Notice) → Memᴰ x l → Memᴰ x m) → length l ≤ length m
unfolding Distinct
no_shorter [] m u sub = omega arith
no_shorter (x ∷ xs) m u sub =
    let p = rest_of x m (sub x (Memᴰ.head refl)) in
    let i = no_shorter xs p.0 u.1 (λ z w. ⊎_elim (λ e. absurd (u.0 (rw e at w))) (λ v. v) (p.2 z (sub z (Memᴰ.tail w)))) in
    omega (arith, p.1)

-- a list with two places alike has all its notices in one place fewer
two_alike : (d : Notice) (m : List Notice) (i j : ℕ) → i < j → j < length m → get_or m i d ≡ get_or m j d
    → (r : List Notice) × (length m ≡ suc (length r)) × ((z : Notice) → Memᴰ z m → Memᴰ z r)
two_alike d [] i j h l e = absurd (omega arith)
two_alike d (y ∷ ys) i zero h l e = absurd (omega arith)
two_alike d (y ∷ ys) zero (suc j) h l e =
    (ys, refl, (λ z w. ⊎_elim (λ q. let p : z ≡ get_or ys j d = q ∙ e in rw p (at_place d ys j (omega arith))) (λ v. v) (Memᴰ.cases_cons w)))
two_alike d (y ∷ ys) (suc i) (suc j) h l e =
    let p = two_alike d ys i j (omega arith) (omega arith) e in (
      y ∷ p.0,
      ap suc p.1,
      (λ z w. ⊎_elim (λ q. Memᴰ.head q) (λ v. Memᴰ.tail (p.2 z v)) (Memᴰ.cases_cons w)),
    )

-- "in whatever order": the notices of a distinct list in another order are a distinct list
pub distinct_reordered : (l m : List Notice) → Distinct l → Reordered l m → Distinct m
distinct_reordered l m u r =
    (distinct_places filler m).1 (λ i j h k e.
    let p = two_alike filler m i j h k e in
    let s = no_shorter l p.0 u (λ z w. p.2 z (r.has_each z w)) in
    let o = r.as_many in
    omega (arith, p.1))

-- neighbours that change places
pub exchanged : (x y : Notice) (l : List Notice) → Reordered (x ∷ y ∷ l) (y ∷ x ∷ l)
exchanged x y l = record { as_many = refl; has_each = (λ z h. over x y z h); no_other = (λ z h. over y x z h) }
  where
    over : (a b z : Notice) → Memᴰ z (a ∷ b ∷ l) → Memᴰ z (b ∷ a ∷ l)
    over a b z h =
        ⊎_elim
        (λ e. Memᴰ.tail (Memᴰ.head e))
        (λ w. ⊎_elim (λ e. Memᴰ.head e) (λ v. Memᴰ.tail (Memᴰ.tail v)) (Memᴰ.cases_cons w))
        (Memᴰ.cases_cons h)

pub kept_first : (x : Notice) (l m : List Notice) → Reordered l m → Reordered (x ∷ l) (x ∷ m)
kept_first x l m r =
    record {
      as_many = ap suc r.as_many;
      has_each = (λ z h. ⊎_elim (λ e. Memᴰ.head e) (λ w. Memᴰ.tail (r.has_each z w)) (Memᴰ.cases_cons h));
      no_other = (λ z h. ⊎_elim (λ e. Memᴰ.head e) (λ w. Memᴰ.tail (r.no_other z w)) (Memᴰ.cases_cons h));
    }

pub further : (l m o : List Notice) → Reordered l m → Reordered m o → Reordered l o
further l m o r s =
    record {
      as_many = s.as_many ∙ r.as_many;
      has_each = (λ z h. s.has_each z (r.has_each z h));
      no_other = (λ z h. r.no_other z (s.no_other z h));
    }

-- two notices by falling number
abbrev pub falling : List Notice
falling = record { number = 7; target = Links 0 1 4; class = 0 } ∷ record { number = 3; target = Links 0 1 4; class = 0 } ∷ []

pub falling_distinct : Distinct falling
unfolding Distinct
falling_distinct = (
  (λ h.
      ⊎_elim
      (λ e. let q : ◌≡◌ {A = ℕ} 7 3 = ap (λ (x : Notice). x.number) e in omega arith)
      (λ w. Memᴰ.not-nil w)
      (Memᴰ.cases_cons h)),
  (Memᴰ.not-nil, tt),
)
