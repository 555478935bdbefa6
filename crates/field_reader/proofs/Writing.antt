-- A part that the action reader accepts has only the room left to check; one that it refuses leaves the memory as it was.
use Rattle.std.specs.Prelude.{Result, Ok, Err}
use mathlib.Core.Path.{◌≡◌, refl, sym, ap}
use mathlib.Core.List.{List, [], ◌∷◌, ◌++◌}
use Prim.Native.Nat.{ℕ, ◌≤◌, ◌<◌}
use borrow.Author.Tests.{lt-ltb, le-ltb}
use lib.ListN.{length, drop, get_or}
use Rattle.table.specs.declared.Refusal.{Refusal}
use Rattle.table.specs.Reply.{Reply.accepted, refused, alone, says}
use Rattle.packing.specs.Packed.{packed}
use Rattle.actions.specs.declared.Action.{Action}
use Rattle.actions.specs.declared.Fields.{Fields}
use Rattle.actions.specs.Format.{IsAction, fields_of}
use Rattle.actions.specs.Entries.{ReadsAction}
use Rattle.fields.specs.Fields.{in_order, ReadsFields}
use Rattle.fields.proofs.Rooms.{room_left, nothing_left}

is_action : (a : Action) → IsAction (Ok a)
is_action (Action.File x) = tt
is_action (Action.Withdraw k) = tt
is_action (Action.Route s d choice) = tt

module _ {part before : List ℕ} where
  pub fields_refused : {why : Refusal} {answer : Result ℕ Refusal} → ReadsAction part (Err why) → answer ≡ Err why → ReadsFields part before before (packed (says alone answer))
  fields_refused {why} r e =
      rw e (record {
        says = ap packed (sym (nothing_left part before refused (accepted (get_or part 0 0 ∷ [])) why r));
        leaves = sym (nothing_left part before (λ k. before) (in_order (fields_of part) ++ drop 8 before) why r);
      })

  module _ {a : Action} (r : ReadsAction part (Ok a)) where
    pub room_short : length before < 8 → ReadsFields part before before 13
    room_short h =
        record {
          says = rw (room_left part before refused (accepted (get_or part 0 0 ∷ [])) (Ok a) (is_action a) r, lt-ltb (length before) 8 h) refl;
          leaves = rw (room_left part before (λ k. before) (in_order (fields_of part) ++ drop 8 before) (Ok a) (is_action a) r, lt-ltb (length before) 8 h) refl;
        }

    pub room_enough : {f : Fields} {front : List ℕ} {first : ℕ} → 8 ≤ length before → f ≡ fields_of part → first ≡ f.action → front ≡ in_order f
        → ReadsFields part before (front ++ drop 8 before) (packed (says alone (Ok first)))
    room_enough h same told laid =
        rw (told, laid, same)
        (record {
          says = rw (room_left part before refused (accepted (get_or part 0 0 ∷ [])) (Ok a) (is_action a) r, le-ltb (length before) 8 h) refl;
          leaves = rw (room_left part before (λ k. before) (in_order (fields_of part) ++ drop 8 before) (Ok a) (is_action a) r, le-ltb (length before) 8 h) refl;
        })
