-- The place of a number among standing notices: inserting there is `insert`, removing there is `without`, and a number stands
-- exactly where the notice at its place has it.
use mathlib.Core.Path.{◌≡◌, refl, sym, ap, ◌∙◌}
use mathlib.Core.Bool.{Bool, true, false, not, true≢false}
use mathlib.Core.List.{List, [], ◌∷◌, ◌++◌}
use Prim.Native.Nat.{ℕ, suc, ◌+◌, ◌≤◌, ◌<◌}
use native.Mathlib.Decide.{ℕ_discrete, dec_le, dec_lt}
use native.Mathlib.Numerals.{one-add}
use native.Mathlib.Omega.{arith}
use borrow.Author.Tests.{eq-eqb, ne_eqb, le-leb, lt-leb, lt-ltb, le-ltb}
use Rattle.std.proofs.lemmas.List.Sums.{prefix_len-le-length}
use Rattle.std.specs.Prelude.{Option, position, unwrap_or}
use lib.Dec.{leb}
use lib.ListN.{length, take, drop, length-append, length-take, length-drop}
use lib.Seq.{length-take-le}
use Rattle.notices.specs.declared.Notice.{Notice}
use Rattle.standing.specs.Rising.{stands, insert, without, Filed}
use Rattle.places.specs.Places.{place_of}
use Rattle.standing.proofs.Members.{above_stands_not, without_none}

abbrev pub insert_at : ℕ → Notice → List Notice → List Notice
insert_at p x l = take p l ++ x ∷ drop p l

abbrev pub remove_at : ℕ → List Notice → List Notice
remove_at p l = take p l ++ drop (suc p) l

module _ (k : ℕ) where
  pub place_le : (l : List Notice) → place_of k l ≤ length l
  place_le l = prefix_len-le-length (λ x. not (leb k x.number)) l

  pub place_past : (l : List Notice) → length l ≤ place_of k l → stands k l ≡ false
  place_past [] h = refl
  place_past (y ∷ ys) h = go (dec_le k y.number) (place_past ys)
    where
      go : Dec (k ≤ y.number) → (length ys ≤ place_of k ys → stands k ys ≡ false) → stands k (y ∷ ys) ≡ false
      go (yes t) ih = let g : suc (length ys) ≤ 0 = rw (le-leb k y.number t) at h in absurd (omega arith)
      go (no t) ih =
          let g : suc (length ys) ≤ 1 + place_of k ys = rw (lt-leb k y.number (omega arith)) at h in
          rw (ne_eqb y.number k (λ e. t (omega arith))) (ih (omega arith))

  pub standing_place : (l : List Notice) → stands k l ≡ true → place_of k l < length l
  standing_place l s = go (dec_le (length l) (place_of k l))
    where
      go : Dec (length l ≤ place_of k l) → place_of k l < length l
      go (yes h) = absurd (true≢false (sym s ∙ place_past l h))
      go (no h) = omega arith

  -- where the first notice is whose number is k or more, and the number of all where there is none
  pub placed : (l : List Notice) (first : Option ℕ) (r : ℕ) → first ≡ position (λ x. leb k x.number) l → r ≡ unwrap_or first (length l)
      → (r ≡ place_of k l) × (r ≤ length l) × (stands k l ≡ true → r < length l)
  placed l first r f u =
      let e : r ≡ unwrap_or (position (λ x. leb k x.number) l) (length l) = u ∙ ap (λ (o : Option ℕ). unwrap_or o (length l)) f in
      let p = place_le l in
      let i : r ≡ place_of k l = go e (dec_lt (place_of k l) (length l)) in
      (i, omega arith, λ s. let q = standing_place l s in omega arith)
    where
      go : r ≡ unwrap_or (position (λ x. leb k x.number) l) (length l) → Dec (place_of k l < length l) → r ≡ place_of k l
      go e (yes h) = e ∙ rw (lt-ltb (place_of k l) (length l) h) refl
      go e (no h) = let p = place_le l in e ∙ rw (le-ltb (place_of k l) (length l) (omega arith)) (omega arith)

  pub without_at : (bad : Notice → Bool) (m : ℕ) (l : List Notice) → Filed bad m l → stands k l ≡ true → without k l ≡ remove_at (place_of k l) l
  unfolding Filed
  without_at bad m [] f s = refl
  without_at bad m (y ∷ ys) f s = go (ℕ_discrete y.number k) (dec_le k y.number) (without_at bad y.number ys f.2)
    where
      go : Dec (y.number ≡ k) → Dec (k ≤ y.number) → (stands k ys ≡ true → without k ys ≡ remove_at (place_of k ys) ys)
          → without k (y ∷ ys) ≡ remove_at (place_of k (y ∷ ys)) (y ∷ ys)
      go (yes e) t ih =
          rw (eq-eqb y.number k e, le-leb k y.number (omega arith)) (without_none k ys (above_stands_not bad y.number k ys f.2 (omega arith)))
      go (no e) (yes t) ih =
          let z : stands k ys ≡ true = rw (ne_eqb y.number k e) at s in
          absurd (true≢false (sym z ∙ above_stands_not bad y.number k ys f.2 t))
      go (no e) (no t) ih =
          let z : stands k ys ≡ true = rw (ne_eqb y.number k e) at s in
          rw (ne_eqb y.number k e, lt-leb k y.number (omega arith), one-add (place_of k ys)) (ap (λ (l : List Notice). y ∷ l) (ih z))

-- a number that stands has its place among those in use
pub place_in_use : (count : ℕ) (notices : List Notice) (k : ℕ) → count ≤ 48 → length notices ≡ 48 → stands k (take count notices) ≡ true → place_of k (take count notices) < count
place_in_use count notices k fits full h =
    let l : length (take count notices) ≡ count = length-take-le count notices (omega arith) in
    let q = standing_place k (take count notices) h in
    omega arith

-- and one notice fewer is left
pub without_shorter : (k : ℕ) (bad : Notice → Bool) (l : List Notice) → Filed bad 0 l → stands k l ≡ true → suc (length (without k l)) ≡ length l
without_shorter k bad l f s =
    let q = standing_place k l s in
    ap (λ (m : List Notice). suc (length m)) (without_at k bad 0 l f s) ∙ simp (length-append, length-take, length-drop) (omega arith)

pub insert_in_place : (x : Notice) (l : List Notice) → insert x l ≡ insert_at (place_of x.number l) x l
unfolding insert
insert_in_place x [] = refl
insert_in_place x (y ∷ ys) = go (dec_le x.number y.number) (insert_in_place x ys)
  where
    go : Dec (x.number ≤ y.number) → insert x ys ≡ insert_at (place_of x.number ys) x ys → insert x (y ∷ ys) ≡ insert_at (place_of x.number (y ∷ ys)) x (y ∷ ys)
    go (yes t) ih = rw (le-leb x.number y.number t, le-ltb y.number x.number t)
    go (no t) ih = rw (lt-leb x.number y.number (omega arith), lt-ltb y.number x.number (omega arith), one-add (place_of x.number ys)) (ap (λ (l : List Notice). y ∷ l) ih)
