-- What the class of a notice says, in the terms of docs/RULES.md.
use mathlib.Core.Path.{◌≡◌, refl}
use mathlib.Core.Bool.{Bool, true, false, ◌||◌}
use mathlib.Core.Logic.{◌↔◌}
use Prim.Native.Nat.{ℕ, ◌≤◌}
use lib.Dec.{eqb}
use borrow.Author.Tests.{le-ltb, ltb-false, eqb-true, eq-eqb}
use Rattle.notices.specs.declared.Notice.{Notice}
use Rattle.notices.specs.Classes.{bad_class, broken, busy, counts}

-- "a class of 2 or more": 0 and 1 are let pass
pub class_within : (class : ℕ) → (bad_class class ≡ false) ↔ (class ≤ 1)
class_within class = ((λ e. ltb-false 1 class e), (λ h. le-ltb 1 class h))

module _ (x : Notice) where
  -- "0, broken, or 1, busy"
  pub broken_exactly : (broken x ≡ true) ↔ (x.class ≡ 0)
  broken_exactly = ((λ e. eqb-true x.class 0 e), (λ e. eq-eqb _ _ e))

  pub busy_exactly : (busy x ≡ true) ↔ (x.class ≡ 1)
  busy_exactly = ((λ e. eqb-true x.class 1 e), (λ e. eq-eqb _ _ e))

  -- "0, and all notices count"
  pub all_counted : counts 0 x ≡ true
  all_counted = refl

  -- "1, and the broken ones alone do"
  pub broken_counted : (counts 1 x ≡ true) ↔ (x.class ≡ 0)
  broken_counted = broken_exactly

  -- so a broken one is counted whatever the choice
  pub broken_always : (choice : ℕ) → x.class ≡ 0 → counts choice x ≡ true
  broken_always choice e = rw (broken_exactly.1 e) (go (eqb choice 0))
    where
      go : (b : Bool) → (b || true) ≡ true
      go true = refl
      go false = refl
