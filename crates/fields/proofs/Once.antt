-- The promise of the fields determines the number and each place of the lent memory, and says the same as the action reader.
use Rattle.std.specs.Prelude.{Err}
use mathlib.Core.Path.{◌≡◌, sym, ap, ◌∙◌}
use mathlib.Core.List.{List, [], ◌∷◌, ◌++◌}
use Prim.Native.Nat.{ℕ, ◌≤◌, ◌<◌}
use borrow.Author.Tests.{lt-ltb, le-ltb}
use lib.ListN.{length, drop, get_or}
use Rattle.table.specs.declared.Refusal.{Refusal}
use Rattle.table.specs.Numbers.{number_of}
use Rattle.table.specs.Reply.{Reply.accepted, refused}
use Rattle.packing.specs.Packed.{packed}
use Rattle.actions.specs.Format.{IsAction, fields_of, bytes_of, ActionRead}
use Rattle.actions.specs.Entries.{ReadsAction}
use Rattle.actions.specs.declared.Fields.{Fields}
use Rattle.actions.proofs.Layouts.{fields_with_class}
use Rattle.actions.proofs.Actions.{read_is_written}
use Rattle.fields.specs.Fields.{kind_says, in_order, ReadsFields}
use Rattle.fields.proofs.Fields.{kind_is_first_byte}
use Rattle.fields.proofs.Rooms.{room_left, nothing_left}

-- no second answer, and no second memory
pub fields_once : (part before after later : List ℕ) (q r : ℕ) → ReadsFields part before after q → ReadsFields part before later r → (q ≡ r) × (after ≡ later)
fields_once part before after later q r v w = (v.says ∙ sym w.says, v.leaves ∙ sym w.leaves)

module _ (part before after : List ℕ) (r : ℕ) (reads : ReadsFields part before after r) where
  abbrev first : List ℕ
  first = get_or part 0 0 ∷ []

  abbrev laid : List ℕ
  laid = in_order (fields_of part) ++ drop 8 before

  -- an action's number and fields, where there is room for them
  pub fields_given : (a : ActionRead) → IsAction a → ReadsAction part a → 8 ≤ length before → (r ≡ packed (kind_says a)) × (after ≡ in_order (fields_of (bytes_of a)) ++ drop 8 before)
  fields_given a i h room =
      let fits = le-ltb (length before) 8 room in (
        reads.says ∙ ap packed {y = kind_says a} (room_left part before refused (accepted first) a i h ∙ rw fits (sym (kind_is_first_byte part a i h))),
        reads.leaves ∙ room_left part before (λ k. before) laid a i h ∙ rw fits (ap (λ (f : Fields). in_order f ++ drop 8 before) (sym (fields_with_class part) ∙ ap fields_of (sym (read_is_written part a i h)))),
      )

  -- 13 where there is none
  pub fields_short : (a : ActionRead) → IsAction a → ReadsAction part a → length before < 8 → (r ≡ 13) × (after ≡ before)
  fields_short a i h room =
      let short = lt-ltb (length before) 8 room in (
        reads.says ∙ ap packed (room_left part before refused (accepted first) a i h) ∙ rw short,
        reads.leaves ∙ room_left part before (λ k. before) laid a i h ∙ rw short,
      )

  -- and the action reader's number where it refuses, whatever the room
  pub fields_unread : (why : Refusal) → ReadsAction part (Err why) → (r ≡ number_of why) × (after ≡ before)
  fields_unread why h = (
    reads.says ∙ ap packed (nothing_left part before refused (accepted first) why h),
    reads.leaves ∙ nothing_left part before (λ k. before) laid why h,
  )
