-- docs/RULES.md, 'Entries' and 'Classes': the action reader.
use Rattle.std.specs.Prelude.{◌≡◌, Bool, not, ◌||◌, List, [], ◌∷◌, ℕ, eqb, length, Ok}
use Rattle.table.specs.Reply.{Reply, refused, says}
use Rattle.table.specs.Checks.{Check, checked, ◌when◌}
use Rattle.actions.specs.declared.Action.{Action}
use Rattle.actions.specs.Layout.{action_length}
use Rattle.actions.specs.Format.{fields_of, with_class, bytes_of, layout_fault, ActionRead}

-- the number and values of each answer; the values of an action are the bytes of its fields: `says_exactly`, `action_numbered`
abbrev pub action_says : ActionRead → Reply
action_says = says (λ a. bytes_of (Ok a))

-- 13: "the part of an action has neither ten nor eleven bytes"; "A part of either length is read"
abbrev pub no_part : List ℕ → Bool
no_part part = not (eqb (length part) (action_length 1) || eqb (length part) (action_length 2))

-- "Action reader (part): 13, 2. Past these it answers the action and its fields.": `action_order`, `thirteen_exactly`, `two_exactly`, `action_exactly`
abbrev pub action_checks : List ℕ → List Check
action_checks part = (13 when no_part part) ∷ (2 when layout_fault (fields_of part)) ∷ []

pub record ReadsAction (part : List ℕ) (answer : ActionRead) : Type 0 where
  pub says : action_says answer ≡ checked (action_checks part) refused (Reply.accepted (with_class part))
