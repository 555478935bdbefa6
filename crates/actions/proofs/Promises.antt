-- The action reader meets its promise where it refuses by a number that its checks give, and where it passes them.
use Rattle.std.specs.Prelude.{Err}
use Rattle.actions.specs.Format.{ActionRead, with_class}
use mathlib.Core.Path.{◌≡◌, sym, ◌∙◌}
use mathlib.Core.List.{List}
use Prim.Native.Nat.{ℕ}
use Rattle.table.specs.declared.Refusal.{Refusal}
use Rattle.table.specs.Numbers.{number_of}
use Rattle.table.specs.Reply.{Reply.accepted, refused}
use Rattle.table.specs.Checks.{Given, Passed}
use Rattle.table.proofs.Checks.{given_refuses, passed_accepts}
use Rattle.actions.specs.Entries.{action_says, action_checks, ReadsAction}

module _ {part : List ℕ} where
  pub action_refuses : {why : Refusal} → Given (number_of why) (action_checks part) → ReadsAction part (Err why)
  action_refuses {why} g = record { says = sym (given_refuses refused (accepted (with_class part)) (number_of why) (action_checks part) g) }

  pub action_accepts : {a : ActionRead} → Passed (action_checks part) → action_says a ≡ accepted (with_class part) → ReadsAction part a
  action_accepts {a} p e = record { says = e ∙ sym (passed_accepts refused (accepted (with_class part)) (action_checks part) p) }
