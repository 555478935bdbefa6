-- docs/RULES.md, 'Entries', "Action reader (part): 13, 2. Past these it answers the action and its fields.", and 'Classes', for C and Rust: which action it is,
-- as a value, and its eight fields, as numbers of 16 bits in lent memory.
use Rattle.actions.specs.Format.{ActionRead, fields_of}
use Rattle.std.specs.Prelude.{◌≡◌, List, [], ◌∷◌, ◌++◌, ℕ, length, drop, get_or}
use Rattle.table.specs.Reply.{Reply, refused, says}
use Rattle.table.specs.Checks.{Check, checked, ◌when◌, ◌below◌}
use Rattle.packing.specs.Packed.{packed}
use Rattle.actions.specs.declared.Fields.{Fields}
use Rattle.actions.specs.declared.Action.{Action}
use Rattle.actions.specs.Entries.{action_checks}

-- which action it is: "Action 1 is a filing", "Action 2 is a withdrawal", "Action 3 is a route". `kind_is_first_byte` says that it is the part's own number.
abbrev pub kind_number : Action → ℕ
kind_number (Action.File x) = 1
kind_number (Action.Withdraw k) = 2
kind_number (Action.Route s d choice) = 3

abbrev pub kind_says : ActionRead → Reply
kind_says = says (λ a. kind_number a ∷ [])

-- "the action in one byte, the number in two, the kind in one, the stage in one, the switch in two, the mask in two, the set in one", and "the class at the
-- end": the fields in this order. `links_fields` and the four after it say what they are for each action.
abbrev pub in_order : Fields → List ℕ
in_order f = f.action ∷ f.number ∷ f.kind ∷ f.stage ∷ f.switch ∷ f.mask ∷ f.set ∷ f.class ∷ []

-- 13: "the lent memory is not long enough": shorter than eight fields (`eight_are_enough`, `seven_are_too_few`)
abbrev pub room_check : List ℕ → List Check
room_check memory = (13 when length memory below 8) ∷ []

-- the action reader's checks, then the room: `fields_order`
abbrev pub fields_checks : List ℕ → List ℕ → List Check
fields_checks part memory = action_checks part ++ room_check memory

-- the number says which action it is, and the fields lie at the front of the memory; the rest stays, and all of it where the call is refused
pub record ReadsFields (part before after : List ℕ) (r : ℕ) : Type 0 where
  pub says : r ≡ packed (checked (fields_checks part before) refused (Reply.accepted (get_or part 0 0 ∷ [])))
  pub leaves : after ≡ checked (fields_checks part before) (λ k. before) (in_order (fields_of part) ++ drop 8 before)
