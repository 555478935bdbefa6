-- A part that the action reader accepts has only the room left to check; one that it refuses has none.
use Rattle.std.specs.Prelude.{Err}
use mathlib.Core.Path.{◌≡◌, refl}
use mathlib.Core.List.{List, [], ◌∷◌, ◌++◌}
use Prim.Native.Nat.{ℕ}
use Rattle.table.specs.declared.Refusal.{Refusal}
use Rattle.table.specs.Numbers.{number_of}
use Rattle.table.specs.Checks.{Check, checked, Passed, Passed.none, Passed.passes}
use Rattle.table.proofs.Checks.{given_refuses, refused_given, given_before}
use Rattle.actions.specs.Format.{IsAction, with_class, ActionRead}
use Rattle.actions.specs.Entries.{action_checks, ReadsAction}
use Rattle.actions.proofs.Actions.{read_passed}
use Rattle.fields.specs.Fields.{room_check, fields_checks}

-- checks that are passed leave those after them
passed_leaves {ℓ} : {A : Type ℓ} (refuse : ℕ → A) (accept : A) (cs ds : List Check) → Passed cs → checked (cs ++ ds) refuse accept ≡ checked ds refuse accept
passed_leaves refuse accept [] ds none = refl
passed_leaves refuse accept (c ∷ cs) ds (passes h p) = rw h (passed_leaves refuse accept cs ds p)

module _ {A : Type 0} (part before : List ℕ) (refuse : ℕ → A) (accept : A) where
  pub room_left : (a : ActionRead) → IsAction a → ReadsAction part a → checked (fields_checks part before) refuse accept ≡ checked (room_check before) refuse accept
  room_left a i r = passed_leaves refuse accept (action_checks part) (room_check before) (read_passed part a i r)

  pub nothing_left : (why : Refusal) → ReadsAction part (Err why) → checked (fields_checks part before) refuse accept ≡ refuse (number_of why)
  nothing_left why r =
      given_refuses refuse accept (number_of why) (fields_checks part before)
      (given_before (action_checks part) (room_check before) (refused_given (action_checks part) (with_class part) (number_of why) r.says))
