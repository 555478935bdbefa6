-- docs/RULES.md, 'The sheet' and 'Classes': what an action's bytes say, and what is read of them. The theorems named here stand in proofs/Meanings,
-- proofs/Layouts and proofs/Actions.
use Rattle.table.specs.declared.Refusal.{Refusal}
use Rattle.std.specs.Prelude.{Bool, true, false, cond, not, ◌||◌, List, [], ◌∷◌, ◌++◌, ℕ, ◌+◌, ◌*◌, ◌-◌, ◌≤◌, eqb, length, get_or, replicate, Result, Ok, Err}
use Rattle.notices.specs.Classes.{bad_class}
use Rattle.actions.specs.Layout.{action_bytes, filing}
use Rattle.actions.specs.declared.Fields.{Fields}
use Rattle.actions.specs.declared.Action.{Action}

-- "In every number of two bytes the high byte comes first.": the number of 16 bits at a place; `big_endian`
abbrev pub word : List ℕ → ℕ → ℕ
word bytes i = get_or bytes i 0 * 256 + get_or bytes (i + 1) 0

-- "the action in one byte, the number in two, the kind in one, the stage in one, the switch in two, the mask in two, the set in one", and "the
-- class at the end": the bytes of fields, and where a reader finds the fields; the class of ten bytes is 0, since there is no byte for it.
-- `fields_read` and `fields_written` say that each is the other read backward.
abbrev pub field_bytes : Fields → List ℕ
field_bytes f = action_bytes f.action f.number f.kind f.stage f.switch f.mask f.set f.class

abbrev pub fields_of : List ℕ → Fields
fields_of part =
    record {
      action = get_or part 0 0;
      number = word part 1;
      kind = get_or part 3 0;
      stage = get_or part 4 0;
      switch = word part 5;
      mask = word part 7;
      set = get_or part 9 0;
      class = get_or part 10 0;
    }

-- the eleven bytes of a part: "Sheets of version 1 are still run. Each notice of theirs is broken, and each route counts all", so ten bytes are
-- those with class 0. `ten_with_class`, `eleven_with_class`
abbrev pub with_class : List ℕ → List ℕ
with_class part = part ++ replicate (11 - length part) 0

-- the eleven bytes of an action: "Action 1 is a filing", "Action 2 is a withdrawal: it has the number, and 0 in every other field", "Action 3
-- is a route: the source in the switch, the destination in the mask, the choice in the class, and 0 in every other field". `example_bytes` has
-- those of the worked example, `bytes_tell` says that no two actions have the same.
-- `ActionRead` is what the action reader answers, an action or a refusal.
abbrev pub ActionRead : Type 0
ActionRead = Result Action Refusal

abbrev pub bytes_of : ActionRead → List ℕ
bytes_of (Ok (Action.File x)) = filing x
bytes_of (Ok (Action.Withdraw number)) = action_bytes 2 number 0 0 0 0 0 0
bytes_of (Ok (Action.Route source destination choice)) = action_bytes 3 0 0 0 source destination 0 choice
bytes_of (Err why) = []

-- "a spare field that is not 0"
abbrev pub some_used : List ℕ → Bool
some_used [] = false
some_used (x ∷ xs) = not (eqb x 0) || some_used xs

-- 2: "an action or a kind that is not known, a spare field that is not 0"; "In kind 1 the mask is 0. In kind 2 the column stands in the stage's byte, mask and
-- set are 0"
abbrev pub kind_fault : Fields → Bool
kind_fault f =
    cond (eqb f.kind 1) (some_used (f.mask ∷ []))
    (cond (eqb f.kind 2) (some_used (f.mask ∷ f.set ∷ []))
    (cond (eqb f.kind 3) (some_used []) true))

-- "In bytes a class of 2 or more is a fault, number 2, and so is any class but 0 on a withdrawal"
abbrev pub filing_fault : Fields → Bool
filing_fault f = kind_fault f || bad_class f.class

abbrev pub withdrawing_fault : Fields → Bool
withdrawing_fault f = some_used (f.kind ∷ f.stage ∷ f.switch ∷ f.mask ∷ f.set ∷ f.class ∷ [])

abbrev pub routing_fault : Fields → Bool
routing_fault f = some_used (f.number ∷ f.kind ∷ f.stage ∷ f.set ∷ []) || bad_class f.class

-- `no_fault_is_an_action` and `action_has_no_fault` say that a fault is in exactly the bytes that no action has, `two_exactly` that the
-- reader refuses exactly these
abbrev pub layout_fault : Fields → Bool
layout_fault f =
    cond (eqb f.action 1) (filing_fault f) (cond (eqb f.action 2) (withdrawing_fault f) (cond (eqb f.action 3) (routing_fault f) true))

-- an action, and no refusal: `action_is_no_refusal`
abbrev pub IsAction : ActionRead → Type 0
IsAction (Ok (Action.File x)) = Unit
IsAction (Ok (Action.Withdraw number)) = Unit
IsAction (Ok (Action.Route source destination choice)) = Unit
IsAction (Err why) = ⊥

-- an action that a sheet can hold, since its class, or its choice, is not above 1: the reader answers these and no others, `action_in_sheets`
abbrev pub InSheets : ActionRead → Type 0
InSheets (Ok (Action.File x)) = x.class ≤ 1
InSheets (Ok (Action.Withdraw number)) = Unit
InSheets (Ok (Action.Route source destination choice)) = choice ≤ 1
InSheets (Err why) = ⊥
