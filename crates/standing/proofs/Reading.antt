-- Reading an array of which the first `count` places are in use, in order.
use mathlib.Core.Path.{◌≡◌, sym, ap, ◌∙◌}
use mathlib.Core.List.{List, [], ◌∷◌, map}
use Prim.Native.Nat.{ℕ, ◌+◌, ◌-◌, ◌≤◌, ◌<◌}
use native.Mathlib.Numerals.{add-one}
use native.Mathlib.Omega.{arith}
use lib.ListN.{length, length-map, take, drop, get_or}
use lib.Seq.{drop-cons, get_or-take, length-take-le, drop-length}

-- the length of an array field whose elements are structs, from what owning the struct tells
pub length_mapped : (X Y : Type 0) (f : X → Y) (l : List X) (n : ℕ) → length (map f l) ≡ n → length l ≡ n
length_mapped X Y f l n e = sym (length-map l f) ∙ e

module _ {A : Type 0} where
  -- what lies from i on is element i and what lies from i + 1 on
  pub next : (l : List A) (d : A) (i : ℕ) → i < length l → drop i l ≡ get_or l i d ∷ drop (i + 1) l
  next l d i h = drop-cons l i d h ∙ ap (λ (m : ℕ). get_or l i d ∷ drop m l) (sym (add-one i))

  -- the same of the first count elements
  pub next_of : (count : ℕ) (l : List A) (d : A) (i : ℕ) → count ≤ length l → i < count → drop i (take count l) ≡ get_or l i d ∷ drop (i + 1) (take count l)
  next_of count l d i fits h =
      let e : length (take count l) ≡ count = length-take-le count l fits in
      next (take count l) d i (omega arith) ∙ ap (λ (x : A). x ∷ drop (i + 1) (take count l)) (get_or-take count l i d h)

  -- and from the end on: what lies from the place before i on
  pub before_of : (count : ℕ) (l : List A) (d : A) (i : ℕ) → count ≤ length l → 0 < i → i ≤ count → drop (i - 1) (take count l) ≡ get_or l (i - 1) d ∷ drop i (take count l)
  before_of count l d i fits some h =
      let e : i - 1 + 1 ≡ i = omega arith in
      next_of count l d (i - 1) fits (omega arith) ∙ ap (λ (m : ℕ). get_or l (i - 1) d ∷ drop m (take count l)) e

  pub none_left : (l : List A) (i : ℕ) → i ≡ length l → drop i l ≡ []
  none_left l i e = ap (λ (m : ℕ). drop m l) e ∙ drop-length l

  pub none_left_of : (count : ℕ) (l : List A) (i : ℕ) → count ≤ length l → i ≡ count → drop i (take count l) ≡ []
  none_left_of count l i fits e = none_left (take count l) i (e ∙ sym (length-take-le count l fits))
