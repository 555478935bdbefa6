-- Opening a gap in an array of which the first places are in use, and closing one.
use mathlib.Core.Path.{◌≡◌, sym, ap, ap₂, ◌∙◌}
use mathlib.Core.List.{List, [], ◌∷◌, ◌++◌, append_assoc}
use Prim.Native.Nat.{ℕ, suc, ◌+◌, ◌-◌, ◌≤◌, ◌<◌}
use native.Mathlib.Numerals.{add-one}
use native.Mathlib.Omega.{arith}
use lib.ListN.{length, take, drop, get_or, set, length-append, length-drop}
use lib.Seq.{length-take-le, paste, take-suc, take_at, set_at, take-append-le, drop-append-le, drop-append-add}
use Rattle.standing.proofs.Reading.{next, none_left}

module _ {A : Type 0} where
  -- the later elements moved up by one and x put into the gap, which overwrites the unused y
  pub opens_gap : (l : List A) (y : A) (r : List A) (x : A) (p : ℕ) → p ≤ length l
      → set (paste (l ++ y ∷ r) (p + 1) (drop p (l ++ y ∷ r)) (length l - p)) p x ≡ (take p l ++ x ∷ drop p l) ++ r
  opens_gap l y r x p h =
      let ns : List A = l ++ y ∷ r in
      let z : A = get_or ns p x in
      let n : length ns ≡ length l + suc (length r) = length-append l (y ∷ r) in
      let d : length (drop p l) ≡ length l - p = length-drop p l in
      let t : length (take p l) ≡ p = length-take-le p l h in
      let e1 : take (p + 1) ns ≡ take p l ++ (z ∷ []) =
      ap (λ (k : ℕ). take k ns) (add-one p) ∙ take-suc ns p x (omega arith) ∙ ap (λ (k : List A). k ++ (z ∷ [])) (take-append-le p l (y ∷ r) h) in
      let e2 : take (length l - p) (drop p ns) ≡ drop p l =
      ap (take (length l - p)) (drop-append-le p l (y ∷ r) h) ∙ take_at (drop p l) (y ∷ r) (length l - p) d in
      let e3 : drop (p + 1 + (length l - p)) ns ≡ r =
      ap (λ (k : ℕ). drop k ns) {x = p + 1 + (length l - p)} {y = length l + 1} (omega arith) ∙ drop-append-add l (y ∷ r) 1 in
      let e4 : (take p l ++ (z ∷ [])) ++ drop p l ++ r ≡ take p l ++ z ∷ (drop p l ++ r) = simp append_assoc in
      ap₂ (λ (a b : List A). set (a ++ b ++ drop (p + 1 + (length l - p)) ns) p x) e1 e2
      ∙ ap (λ (c : List A). set ((take p l ++ (z ∷ [])) ++ drop p l ++ c) p x) e3
      ∙ ap (λ (c : List A). set c p x) e4
      ∙ set_at (take p l) z (drop p l ++ r) x p t
      ∙ sym (append_assoc (take p l) (x ∷ drop p l) r)

  -- the later elements moved down by one over place p, and f put into the place that comes free
  pub closes_gap : (l r : List A) (f : A) (p : ℕ) → p < length l
      → set (paste (l ++ r) p (drop (p + 1) (l ++ r)) (length l - p - 1)) (length l - 1) f ≡ (take p l ++ drop (suc p) l) ++ f ∷ r
  closes_gap l r f p h =
      let ns : List A = l ++ r in
      let m : ℕ = length l - 1 in
      let z : A = get_or l m f in
      let t : length (take p l) ≡ p = length-take-le p l (omega arith) in
      let d : length (drop (p + 1) l) ≡ length l - (p + 1) = length-drop (p + 1) l in
      let e1 : take p ns ≡ take p l = take-append-le p l r (omega arith) in
      let e2 : take (length l - p - 1) (drop (p + 1) ns) ≡ drop (p + 1) l =
      ap (take (length l - p - 1)) (drop-append-le (p + 1) l r (omega arith)) ∙ take_at (drop (p + 1) l) r (length l - p - 1) (omega arith) in
      let e3 : drop (p + (length l - p - 1)) ns ≡ z ∷ r =
      ap (λ (k : ℕ). drop k ns) {x = p + (length l - p - 1)} {y = m} (omega arith)
      ∙ drop-append-le m l r (omega arith)
      ∙ ap (λ (k : List A). k ++ r) (next l f m (omega arith) ∙ ap (λ (k : List A). z ∷ k) (none_left l (m + 1) (omega arith))) in
      let e4 : length (take p l ++ drop (p + 1) l) ≡ m = length-append (take p l) (drop (p + 1) l) ∙ omega arith in
      ap₂ (λ (a b : List A). set (a ++ b ++ drop (p + (length l - p - 1)) ns) m f) e1 e2
      ∙ ap (λ (c : List A). set (take p l ++ drop (p + 1) l ++ c) m f) e3
      ∙ set_at (take p l ++ drop (p + 1) l) z r f m e4
      ∙ ap (λ (k : ℕ). (take p l ++ drop k l) ++ f ∷ r) (add-one p)
