-- What the action reader answers, said of a part's bytes alone: an action exactly for its own eleven bytes, or for ten that are its own but for a class of
-- zero, 2 exactly for bytes that no action has so, 13 exactly for another length.
use Rattle.std.specs.Prelude.{Ok, Err}
use mathlib.Core.Path.{◌≡◌, refl, sym, ap, subst, ◌∙◌}
use mathlib.Core.Bool.{Bool, true, false}
use mathlib.Core.Logic.{◌⊎◌, inl, inr, ◌↔◌}
use mathlib.Core.List.{List, [], ◌∷◌, ◌++◌}
use Prim.Native.Nat.{ℕ, ◌≤◌, ◌<◌}
use native.Mathlib.Omega.{arith}
use lib.ListN.{length, get_or, get_or-eq_default}
use Rattle.table.specs.declared.Refusal.{Refusal}
use Rattle.table.specs.Numbers.{number_of}
use Rattle.table.specs.Reply.{Reply, Numbered}
use Rattle.table.specs.Checks.{Given.here, Given.later}
use Rattle.table.proofs.Numbers.{above_zero}
use Rattle.table.proofs.Checks.{zero_one, passed_nth}
use Rattle.notices.specs.declared.Notice.{Notice}
use Rattle.notices.specs.declared.Target.{Target}
use Rattle.notices.specs.declared.Target.TheVariants.{Links, Switch, Pattern}
use Rattle.actions.specs.Layout.{filing_of}
use Rattle.actions.specs.declared.Action.{Action}
use Rattle.actions.specs.Format.{IsAction, InSheets, fields_of, with_class, bytes_of, layout_fault, ActionRead}
use Rattle.actions.specs.Entries.{action_says, no_part, action_checks, ReadsAction}
use Rattle.actions.proofs.Layouts.{class_read}
use Rattle.actions.proofs.Promises.{action_refuses}
use Rattle.actions.proofs.Meanings.{lengths_pass, ten_with_class, eleven_with_class}
use Rattle.actions.proofs.Actions.{kind_of, action_once, bytes_tell, held_is_action, reads_by_class, reads_its_bytes, reads_ten_bytes, read_is_written, read_passed, no_fault_is_an_action, part_fault}

-- an action is what is no refusal
pub action_is_no_refusal : (a : ActionRead) → IsAction a ↔ ((why : Refusal) → a ≡ Err why → ⊥)
action_is_no_refusal a = ((λ i why e. subst IsAction e i), (λ h. go h (kind_of a)))
  where
    go : ((why : Refusal) → a ≡ Err why → ⊥) → ((why : Refusal) × (a ≡ Err why)) ⊎ IsAction a → IsAction a
    go h (inl q) = absurd (h q.0 q.1)
    go h (inr i) = i

-- what an answer says: an action its bytes, a refusal a number of the table
pub says_exactly : (a : ActionRead) (values : List ℕ) → (action_says a ≡ Reply.accepted values) ↔ (IsAction a × (bytes_of a ≡ values))
says_exactly (Ok (Action.File x)) values = ((λ e. (tt, (cc))), (λ w. ap Reply.accepted w.1))
says_exactly (Ok (Action.Withdraw k)) values = ((λ e. (tt, (cc))), (λ w. ap Reply.accepted w.1))
says_exactly (Ok (Action.Route s d choice)) values = ((λ e. (tt, (cc))), (λ w. ap Reply.accepted w.1))
says_exactly (Err why) values = ((λ e. absurd (zero_one cc)), (λ w. absurd w.0))

pub action_numbered : (a : ActionRead) → Numbered (action_says a)
action_numbered (Ok (Action.File x)) = tt
action_numbered (Ok (Action.Withdraw k)) = tt
action_numbered (Ok (Action.Route s d choice)) = tt
action_numbered (Err why) = above_zero why

-- the bytes of an action are a part, or are a part with class zero: "A part of either length is read"
abbrev pub Spells : List ℕ → ActionRead → Type 0
Spells part a = (bytes_of a ≡ part) ⊎ (bytes_of a ≡ part ++ 0 ∷ [])

-- "Past these it answers the action and its fields"
pub action_exactly : (part : List ℕ) (a : ActionRead) → InSheets a → ReadsAction part a ↔ Spells part a
action_exactly part a i = (there, back)
  where
    there : ReadsAction part a → Spells part a
    there r = go ((lengths_pass part).0 (passed_nth (action_checks part) 0 (read_passed part a (held_is_action a i) r)))
      where
        same : bytes_of a ≡ with_class part
        same = read_is_written part a (held_is_action a i) r

        go : (length part ≡ 10) ⊎ (length part ≡ 11) → Spells part a
        go (inl l) = inr (same ∙ ten_with_class part l)
        go (inr l) = inl (same ∙ eleven_with_class part l)

    back : Spells part a → ReadsAction part a
    back (inl e) = subst (λ (l : List ℕ). ReadsAction l a) e (reads_its_bytes a i)
    back (inr e) = reads_ten_bytes part a i e

-- no action is read that a sheet cannot hold: not from bytes, where a class above 1 is a fault
pub action_in_sheets : (part : List ℕ) (a : ActionRead) → length part ≤ 11 → ((i : ℕ) → get_or part i 0 < 256) → IsAction a → ReadsAction part a → InSheets a
action_in_sheets part a l bytes i r =
    let w = no_fault_is_an_action part l bytes (passed_nth (action_checks part) 1 (read_passed part a i r)) in
    subst InSheets (bytes_tell w.0 a (held_is_action w.0 w.1) i (w.2 ∙ sym (read_is_written part a i r))) w.1

-- 13: "the part of an action has neither ten nor eleven bytes"
pub thirteen_exactly : (part : List ℕ) → ReadsAction part (Err Refusal.Room) ↔ ((length part ≡ 10) ⊎ (length part ≡ 11) → ⊥)
thirteen_exactly part = ((λ r l. two (part_fault part Refusal.Room l r)), (λ h. go h (no_part part) refl))
  where
    two : Refusal.Room ≡ Refusal.Layout → ⊥
    two e = let f : ◌≡◌ {A = ℕ} 13 2 = ap number_of e in omega arith

    go : ((length part ≡ 10) ⊎ (length part ≡ 11) → ⊥) → (b : Bool) → no_part part ≡ b → ReadsAction part (Err Refusal.Room)
    go h true e = action_refuses (here e refl)
    go h false e = absurd (h ((lengths_pass part).0 e))

-- 2: "an action or a kind that is not known, a spare field that is not 0", and "a class of 2 or more is a fault, number 2, and so is any class but 0 on a
-- withdrawal"
pub two_exactly : (part : List ℕ) → (length part ≡ 10) ⊎ (length part ≡ 11) → ((i : ℕ) → get_or part i 0 < 256)
    → ReadsAction part (Err Refusal.Layout) ↔ ((a : ActionRead) → InSheets a → Spells part a → ⊥)
two_exactly part l bytes = (
  (λ r a i e. subst IsAction (action_once part a (Err Refusal.Layout) ((action_exactly part a i).1 e) r) (held_is_action a i)),
  (λ h. go h (layout_fault (fields_of part)) refl),
)
  where
    few : (length part ≡ 10) ⊎ (length part ≡ 11) → length part ≤ 11
    few (inl e) = omega arith
    few (inr e) = omega arith

    go : ((a : ActionRead) → InSheets a → Spells part a → ⊥) → (b : Bool) → layout_fault (fields_of part) ≡ b → ReadsAction part (Err Refusal.Layout)
    go h true e = action_refuses (later ((lengths_pass part).1 l) (here e refl))
    go h false e =
        let w = no_fault_is_an_action part (few l) bytes e in
        absurd (h w.0 w.1 ((action_exactly part w.0 w.1).0 (reads_by_class part w.0 w.1 l w.2)))

-- "Sheets of version 1 are still run. Each notice of theirs is broken, and each route counts all": of ten bytes the class is 0, and so is the choice
module _ (part : List ℕ) (ten : length part ≡ 10) where
  last_of : (a : ActionRead) → IsAction a → ReadsAction part a → get_or (bytes_of a) 10 0 ≡ 0
  last_of a i r = ap (λ (l : List ℕ). get_or l 10 0) (read_is_written part a i r) ∙ class_read part 10 ∙ get_or-eq_default part 0 (omega arith)

  class_of_filing : (k : ℕ) (t : Target) (class : ℕ) → get_or (filing_of k t class) 10 0 ≡ class
  class_of_filing k (Links stage switch s) class = refl
  class_of_filing k (Switch column switch) class = refl
  class_of_filing k (Pattern stage value mask s) class = refl

  pub ten_bytes_broken : (x : Notice) → ReadsAction part (Ok (Action.File x)) → x.class ≡ 0
  ten_bytes_broken x r = sym (class_of_filing x.number x.target x.class) ∙ last_of (Ok (Action.File x)) tt r

  pub ten_bytes_over_all : (s d choice : ℕ) → ReadsAction part (Ok (Action.Route s d choice)) → choice ≡ 0
  ten_bytes_over_all s d choice r = last_of (Ok (Action.Route s d choice)) tt r
