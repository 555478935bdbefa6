-- An answer is packed in one way, so an entry with one answer has one number.
use mathlib.Core.Path.{◌≡◌, refl, sym, ap, ◌∙◌}
use Prim.Native.Nat.{ℕ}
use Rattle.table.specs.Reply.{Reply}
use Rattle.packing.specs.Packed.{packed, Tells}

module _ {A : Type 0} (promise : A → Type 0) (says : A → Reply) where
  -- an answer that the entry promises has a number
  pub tells_one : (a : A) → promise a → Tells promise says (packed (says a))
  tells_one a p = (a, p, refl)

  module _ (once : (x y : A) → promise x → promise y → x ≡ y) where
    -- and the number that is told is that of every answer which the entry promises
    pub tells_all : (r : ℕ) → Tells promise says r → (a : A) → promise a → r ≡ packed (says a)
    tells_all r t a p = t.2 ∙ ap (λ x. packed (says x)) (once t.0 a t.1 p)

    -- no second number
    pub tells_once : (q r : ℕ) → Tells promise says q → Tells promise says r → q ≡ r
    tells_once q r v w = tells_all q v w.0 w.1 ∙ sym w.2
