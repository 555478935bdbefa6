-- The tests of notices by rising number, and of unused places; and the 48 places in which a list stands.
use mathlib.Core.Path.{◌≡◌, refl, sym, ap, ap₂, ◌∙◌}
use mathlib.Core.Bool.{Bool, true, false, not, ◌&&◌, ◌||◌, true≢false}
use mathlib.Core.List.{List, [], ◌∷◌}
use Prim.Native.Nat.{ℕ, zero, suc, ◌+◌, ◌-◌, ◌≤◌, ◌<◌}
use native.Mathlib.Omega.{arith}
use borrow.Author.Tests.{le-leb, lt-leb, eqb-true, leb-false}
use lib.Dec.{eqb}
use Rattle.std.proofs.lemmas.List.{drop_all}
use lib.ListN.{length, get_or, take, drop, replicate, length-append, length-replicate}
use lib.Seq.{take-append_seam, drop-append_seam}
use Rattle.table.specs.Checks.{◌not_below◌}
use Rattle.table.proofs.Checks.{neither, both_hold}
use Rattle.notices.specs.declared.Notice.{Notice}
use Rattle.notices.specs.declared.Target.{Target}
use Rattle.notices.specs.declared.Target.TheVariants.{Links, Switch, Pattern}
use Rattle.standing.specs.Rising.{filler, in_places, Filed, misfiled, is_filler, is_first_target, littered}
use Rattle.standing.proofs.Reading.{next}

-- `misfiled` decides `Filed`
module _ (bad : Notice → Bool) where
  pub filed_if : (k : ℕ) (l : List Notice) → misfiled bad k l ≡ false → Filed bad k l
  unfolding misfiled Filed
  filed_if k [] e = tt
  filed_if k (x ∷ xs) e =
      let o = neither _ _ e in
      let p = neither _ _ o.0 in
      (leb-false x.number k p.0, p.1, filed_if _ xs o.1)

  pub filed_passes : (k : ℕ) (l : List Notice) → Filed bad k l → misfiled bad k l ≡ false
  unfolding misfiled Filed
  filed_passes k [] f = refl
  filed_passes k (x ∷ xs) f = rw (lt-leb x.number k f.0, f.1) (filed_passes _ xs f.2)

  -- from the notice at place i on: it is misfiled, or it is not and the others tell
  module _ (k : ℕ) (l : List Notice) (d : Notice) (i : ℕ) (h : i < length l) where
    pub misfiled_number : (get_or l i d).number ≤ k → misfiled bad k (drop i l) ≡ true
    unfolding misfiled
    misfiled_number e = rw (next l d i h, le-leb _ _ e)

    pub misfiled_bad : bad (get_or l i d) ≡ true → misfiled bad k (drop i l) ≡ true
    unfolding misfiled
    misfiled_bad e = rw (next l d i h, e) (either_way (k not_below (get_or l i d).number) _)
      where
        either_way : (b c : Bool) → (b || true || c) ≡ true
        either_way true c = refl
        either_way false c = refl

    pub misfiled_next : k < (get_or l i d).number → bad (get_or l i d) ≡ false
        → misfiled bad k (drop i l) ≡ misfiled bad (get_or l i d).number (drop (i + 1) l)
    unfolding misfiled
    misfiled_next g e = rw (next l d i h, lt-leb _ _ g, e)

  pub misfiled_end : (k : ℕ) (l : List Notice) (i : ℕ) → length l ≤ i → misfiled bad k (drop i l) ≡ false
  unfolding misfiled
  misfiled_end k l i h = ap (misfiled bad k) (drop_all i l h)

-- `littered` finds anything but the filler
pub first_target : (t : Target) → is_first_target t ≡ true → t ≡ Links 0 0 0
first_target (Links stage switch s) e =
    let o = (both_hold (eqb stage 0 && eqb switch 0) (eqb s 0)).0 e in
    let p = (both_hold (eqb stage 0) (eqb switch 0)).0 o.0 in
    rw (eqb-true stage 0 p.0, eqb-true switch 0 p.1, eqb-true s 0 o.1)
first_target (Switch column switch) e = absurd (true≢false (sym e))
first_target (Pattern stage value mask s) e = absurd (true≢false (sym e))

pub filler_by_test : (x : Notice) → is_filler x ≡ true → x ≡ filler
filler_by_test x e =
    let o = (both_hold (eqb x.number 0 && is_first_target x.target) (eqb x.class 0)).0 e in
    let p = (both_hold (eqb x.number 0) (is_first_target x.target)).0 o.0 in
    same (eqb-true x.number 0 p.0) (first_target x.target p.1) (eqb-true x.class 0 o.1)
  where
    same : x.number ≡ 0 → x.target ≡ Links 0 0 0 → x.class ≡ 0 → x ≡ filler
    same k t q = ap₂ (λ (m : ℕ) (u : Target). record { number = m; target = u; class = x.class }) k t ∙ ap (λ (m : ℕ). record { number = 0; target = Links 0 0 0; class = m }) q

pub unlittered : (l : List Notice) → littered l ≡ false → l ≡ replicate (length l) filler
unlittered [] e = refl
unlittered (x ∷ xs) e =
    let o = neither (not (is_filler x)) (littered xs) e in
    ap₂ (λ (y : Notice) (ys : List Notice). y ∷ ys) (filler_by_test x (not_not (is_filler x) o.0)) (unlittered xs o.1)
  where
    not_not : (b : Bool) → not b ≡ false → b ≡ true
    not_not true h = refl
    not_not false h = absurd (true≢false h)

pub filler_unlittered : (n : ℕ) → littered (replicate n filler) ≡ false
filler_unlittered zero = refl
filler_unlittered (suc n) = filler_unlittered n

-- The places of a list: the list itself, then the filler, and 48 in all.
module _ (l : List Notice) where
  pub places_first : take (length l) (in_places l) ≡ l
  unfolding in_places
  places_first = take-append_seam l (replicate (48 - length l) filler)

  pub places_after : drop (length l) (in_places l) ≡ replicate (48 - length l) filler
  unfolding in_places
  places_after = drop-append_seam l (replicate (48 - length l) filler)

  pub places_in_all : length l ≤ 48 → length (in_places l) ≡ 48
  unfolding in_places
  places_in_all h = simp (length-append, length-replicate) (omega arith)
