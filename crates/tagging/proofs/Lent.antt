-- Lent memory: filling its front from a list, one element at a time.
use mathlib.Core.Path.{◌≡◌, sym, ap, ◌∙◌}
use mathlib.Core.List.{List, [], ◌∷◌, ◌++◌, append_assoc}
use Prim.Native.Nat.{ℕ, suc, ◌+◌, ◌<◌}
use native.Mathlib.Numerals.{add-one}
use native.Mathlib.Omega.{arith}
use lib.ListN.{length, take, drop, get_or, set}
use lib.Seq.{drop-cons, take-suc, set_at, length-take-le}

-- the front holds i elements of the list, and now one more
pub front_more : {A : Type 0} (whole lent : List A) (d : A) (i : ℕ) → i < length whole → i < length lent
    → set (take i whole ++ drop i lent) i (get_or whole i d) ≡ take (i + 1) whole ++ drop (i + 1) lent
front_more {A} whole lent d i more room =
    ap (λ (l : List A). set (take i whole ++ l) i (get_or whole i d)) (drop-cons lent i d room)
    ∙ set_at (take i whole) (get_or lent i d) (drop (suc i) lent) (get_or whole i d) i (length-take-le i whole (omega arith))
    ∙ sym (append_assoc (take i whole) (get_or whole i d ∷ []) (drop (suc i) lent))
    ∙ ap (λ (l : List A). l ++ drop (suc i) lent) (sym (take-suc whole i d more))
    ∙ ap (λ (k : ℕ). take k whole ++ drop k lent) (sym (add-one i))
