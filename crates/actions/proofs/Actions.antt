-- No part has a second answer, and the reader is the format read backward.
use Rattle.std.specs.Prelude.{Ok, Err}
use mathlib.Core.Path.{◌≡◌, refl, sym, ap, ap₂, ◌∙◌}
use mathlib.Core.Bool.{Bool, false, cond, true≢false}
use mathlib.Core.Logic.{◌⊎◌, inl, inr}
use mathlib.Core.List.{List, [], ◌∷◌, ◌++◌}
use Prim.Native.Nat.{ℕ, ◌≤◌, ◌<◌}
use native.Mathlib.Decide.{ℕ_discrete}
use native.Mathlib.Omega.{arith}
use lib.Dec.{eqb}
use lib.ListN.{length, get_or, length-append}
use Rattle.table.specs.declared.Refusal.{Refusal}
use Rattle.table.specs.Numbers.{number_of}
use Rattle.table.specs.Reply.{Reply.accepted, refused}
use Rattle.table.specs.Checks.{Passed, Passed.none, Passed.passes, Given, Given.here, Given.later, checked, ◌when◌}
use Rattle.table.proofs.Numbers.{number_tells}
use Rattle.table.proofs.Checks.{accepted_passed, refused_given, accepted_says, passed_nth, zero_one}
use Rattle.notices.proofs.Classes.{class_within}
use Rattle.notices.specs.declared.Target.{Target}
use Rattle.notices.specs.declared.Target.TheVariants.{Links, Switch, Pattern}
use Rattle.actions.specs.Layout.{filing_of}
use Rattle.actions.specs.declared.Action.{Action}
use Rattle.actions.specs.declared.Fields.{Fields}
use Rattle.actions.specs.Format.{IsAction, InSheets, field_bytes, fields_of, with_class, bytes_of, layout_fault, ActionRead}
use Rattle.actions.specs.Entries.{action_says, action_checks, ReadsAction}
use Rattle.actions.proofs.Listings.{length_filing}
use Rattle.actions.proofs.Meanings.{lengths_pass, ten_with_class, eleven_with_class}
use Rattle.actions.proofs.Promises.{action_accepts}
use Rattle.actions.proofs.Layouts.{word_read, fields_written, fields_with_class, links_bytes, switch_bytes, pattern_bytes, withdrawing_bytes, routing_bytes, filing_right, withdrawing_right, routing_right, choice_right, links_right, switch_right, pattern_right}

-- the action that fields without a fault are
abbrev named : Fields → ActionRead
named f =
    cond (eqb f.action 1)
    (Ok (Action.File (record { number = f.number; target = cond (eqb f.kind 1) (Links f.stage f.switch f.set) (cond (eqb f.kind 2) (Switch f.stage f.switch) (Pattern f.stage f.switch f.mask f.set)); class = f.class })))
    (cond (eqb f.action 2) (Ok (Action.Withdraw f.number)) (Ok (Action.Route f.switch f.mask f.class)))

file_named : (k : ℕ) (t : Target) (class : ℕ) → named (fields_of (filing_of k t class)) ≡ Ok (Action.File (record { number = k; target = t; class = class }))
file_named k (Links stage switch links) class = rw (word_read k, word_read switch)
file_named k (Switch column switch) class = rw (word_read k, word_read switch)
file_named k (Pattern stage value mask links) class = rw (word_read k, word_read value, word_read mask)

withdraw_named : (k : ℕ) → named (fields_of (bytes_of (Ok (Action.Withdraw k)))) ≡ Ok (Action.Withdraw k)
withdraw_named k = rw (word_read k)

route_named : (s d choice : ℕ) → named (fields_of (bytes_of (Ok (Action.Route s d choice)))) ≡ Ok (Action.Route s d choice)
route_named s d choice = rw (word_read s, word_read d)

bytes_named : (a : ActionRead) → IsAction a → named (fields_of (bytes_of a)) ≡ a
bytes_named (Ok (Action.File x)) i = file_named x.number x.target x.class
bytes_named (Ok (Action.Withdraw k)) i = withdraw_named k
bytes_named (Ok (Action.Route s d choice)) i = route_named s d choice
bytes_named (Err _) i = elim i [ ]

action_says_bytes : (a : ActionRead) → IsAction a → action_says a ≡ accepted (bytes_of a)
action_says_bytes (Ok (Action.File x)) i = refl
action_says_bytes (Ok (Action.Withdraw k)) i = refl
action_says_bytes (Ok (Action.Route s d choice)) i = refl
action_says_bytes (Err _) i = elim i [ ]

-- no two actions have the same bytes
pub bytes_tell : (a b : ActionRead) → IsAction a → IsAction b → bytes_of a ≡ bytes_of b → a ≡ b
bytes_tell a b i j e = sym (bytes_named a i) ∙ ap (λ (l : List ℕ). named (fields_of l)) e ∙ bytes_named b j

-- an answer is a refusal or an action
pub kind_of : (a : ActionRead) → ((why : Refusal) × (a ≡ Err why)) ⊎ IsAction a
kind_of (Ok (Action.File x)) = inr tt
kind_of (Ok (Action.Withdraw k)) = inr tt
kind_of (Ok (Action.Route s d choice)) = inr tt
kind_of (Err why) = inl (why, refl)

pub action_tells : (a b : ActionRead) → action_says a ≡ action_says b → a ≡ b
action_tells a b e = go (kind_of a) (kind_of b)
  where
    go : ((why : Refusal) × (a ≡ Err why)) ⊎ IsAction a → ((why : Refusal) × (b ≡ Err why)) ⊎ IsAction b → a ≡ b
    go (inl q) (inl r) =
        let f : refused (number_of q.0) ≡ refused (number_of r.0) = ap action_says (sym q.1) ∙ e ∙ ap action_says r.1 in
        let z : number_of q.0 ≡ number_of r.0 = cc in
        q.1 ∙ ap Err (number_tells q.0 r.0 z) ∙ sym r.1
    go (inl q) (inr j) =
        let f : refused (number_of q.0) ≡ accepted (bytes_of b) = ap action_says (sym q.1) ∙ e ∙ action_says_bytes b j in
        absurd (zero_one cc)
    go (inr i) (inl r) =
        let f : accepted (bytes_of a) ≡ refused (number_of r.0) = sym (action_says_bytes a i) ∙ e ∙ ap action_says r.1 in
        absurd (zero_one cc)
    go (inr i) (inr j) =
        let f : accepted (bytes_of a) ≡ accepted (bytes_of b) = sym (action_says_bytes a i) ∙ e ∙ action_says_bytes b j in
        let g : bytes_of a ≡ bytes_of b = cc in
        bytes_tell a b i j g

-- no second answer
pub action_once : (part : List ℕ) (a b : ActionRead) → ReadsAction part a → ReadsAction part b → a ≡ b
action_once part a b p q = action_tells a b (p.says ∙ sym q.says)

-- what a sheet can hold is an action
pub held_is_action : (a : ActionRead) → InSheets a → IsAction a
held_is_action (Ok (Action.File x)) i = tt
held_is_action (Ok (Action.Withdraw k)) i = tt
held_is_action (Ok (Action.Route s d choice)) i = tt
held_is_action (Err _) i = elim i [ ]

-- the bytes of an action that a sheet can hold have no fault
filing_passes : (k : ℕ) (t : Target) (class : ℕ) → class ≤ 1 → Passed (action_checks (filing_of k t class))
filing_passes k (Links stage switch links) class i = passes refl (passes ((class_within class).1 i) none)
filing_passes k (Switch column switch) class i = passes refl (passes ((class_within class).1 i) none)
filing_passes k (Pattern stage value mask links) class i = passes refl (passes ((class_within class).1 i) none)

pub action_passes : (a : ActionRead) → InSheets a → Passed (action_checks (bytes_of a))
action_passes (Ok (Action.File x)) i = filing_passes x.number x.target x.class i
action_passes (Ok (Action.Withdraw k)) i = passes refl (passes refl none)
action_passes (Ok (Action.Route s d choice)) i = passes refl (passes ((class_within choice).1 i) none)
action_passes (Err _) i = elim i [ ]

pub action_has_no_fault : (a : ActionRead) → InSheets a → layout_fault (fields_of (bytes_of a)) ≡ false
action_has_no_fault a i = passed_nth (action_checks (bytes_of a)) 1 (action_passes a i)

pub bytes_are_eleven : (a : ActionRead) → IsAction a → length (bytes_of a) ≡ 11
bytes_are_eleven (Ok (Action.File x)) i = length_filing x
bytes_are_eleven (Ok (Action.Withdraw k)) i = refl
bytes_are_eleven (Ok (Action.Route s d choice)) i = refl
bytes_are_eleven (Err _) i = elim i [ ]

-- what is written reads as what was written: by its eleven bytes, and by the first ten of them where the class is zero
pub reads_by_class : (part : List ℕ) (a : ActionRead) → InSheets a → (length part ≡ 10) ⊎ (length part ≡ 11) → bytes_of a ≡ with_class part → ReadsAction part a
reads_by_class part a i l e =
    action_accepts
    (passes ((lengths_pass part).1 l) (passes (ap layout_fault (sym (fields_with_class part) ∙ ap fields_of (sym e)) ∙ action_has_no_fault a i) none))
    (action_says_bytes a (held_is_action a i) ∙ ap accepted e)

pub reads_its_bytes : (a : ActionRead) → InSheets a → ReadsAction (bytes_of a) a
reads_its_bytes a i =
    let l = bytes_are_eleven a (held_is_action a i) in
    reads_by_class (bytes_of a) a i (inr l) (sym (eleven_with_class (bytes_of a) l))

pub reads_ten_bytes : (part : List ℕ) (a : ActionRead) → InSheets a → bytes_of a ≡ part ++ 0 ∷ [] → ReadsAction part a
reads_ten_bytes part a i e =
    let l = bytes_are_eleven a (held_is_action a i) in
    let m = ap length e ∙ length-append part (0 ∷ []) in
    let ten : length part ≡ 10 = omega arith in
    reads_by_class part a i (inl ten) (e ∙ sym (ten_with_class part ten))

pub written_is_read : (a b : ActionRead) → InSheets a → ReadsAction (bytes_of a) b → b ≡ a
written_is_read a b i r = action_once (bytes_of a) b a r (reads_its_bytes a i)

-- and what is read was written so
pub read_is_written : (part : List ℕ) (a : ActionRead) → IsAction a → ReadsAction part a → bytes_of a ≡ with_class part
read_is_written part a i r = accepted_says (action_checks part) (with_class part) (bytes_of a) (sym (action_says_bytes a i) ∙ r.says)

-- where an action is read, nothing is at fault
pub read_passed : (part : List ℕ) (a : ActionRead) → IsAction a → ReadsAction part a → Passed (action_checks part)
read_passed part a i r = accepted_passed (action_checks part) (with_class part) (bytes_of a) (sym (action_says_bytes a i) ∙ r.says)

-- fields without a fault are an action's
fields_are_an_action : (f : Fields) → layout_fault f ≡ false → (a : ActionRead) × InSheets a × (bytes_of a ≡ field_bytes f)
fields_are_an_action f right = go (ℕ_discrete f.action 1) (ℕ_discrete f.action 2)
  where
    files : f.action ≡ 1 → Dec (f.kind ≡ 1) → Dec (f.kind ≡ 2) → (a : ActionRead) × InSheets a × (bytes_of a ≡ field_bytes f)
    files a (yes k) d =
        let h = filing_right f a right in
        (Ok (Action.File (record { number = f.number; target = Links f.stage f.switch f.set; class = f.class })), h.1, links_bytes f a k (links_right f k h.0))
    files a (no k) (yes m) =
        let h = filing_right f a right in
        let s = switch_right f m h.0 in
        (Ok (Action.File (record { number = f.number; target = Switch f.stage f.switch; class = f.class })), h.1, switch_bytes f a m s.0 s.1)
    files a (no k) (no m) =
        let h = filing_right f a right in
        (Ok (Action.File (record { number = f.number; target = Pattern f.stage f.switch f.mask f.set; class = f.class })), h.1, pattern_bytes f a (pattern_right f k m h.0))

    go : Dec (f.action ≡ 1) → Dec (f.action ≡ 2) → (a : ActionRead) × InSheets a × (bytes_of a ≡ field_bytes f)
    go (yes a) d = files a (ℕ_discrete f.kind 1) (ℕ_discrete f.kind 2)
    go (no a) (yes b) = (Ok (Action.Withdraw f.number), tt, withdrawing_bytes f b (withdrawing_right f b right))
    go (no a) (no b) =
        let h = routing_right f a b right in
        (Ok (Action.Route f.switch f.mask f.class), choice_right f h.1, routing_bytes f h.0 h.1)

pub no_fault_is_an_action : (part : List ℕ) → length part ≤ 11 → ((i : ℕ) → get_or part i 0 < 256) → layout_fault (fields_of part) ≡ false
    → (a : ActionRead) × InSheets a × (bytes_of a ≡ with_class part)
no_fault_is_an_action part l bytes right =
    let h = fields_are_an_action (fields_of part) right in
    (h.0, h.1, h.2 ∙ fields_written part l bytes)

-- of ten bytes, or eleven, the action reader refuses none by another number than 2
pub part_fault : (part : List ℕ) (why : Refusal) → (length part ≡ 10) ⊎ (length part ≡ 11) → ReadsAction part (Err why) → why ≡ Refusal.Layout
part_fault part why l r = go (refused_given (action_checks part) (with_class part) (number_of why) r.says)
  where
    go : Given (number_of why) (action_checks part) → why ≡ Refusal.Layout
    go (here h e) = absurd (true≢false (sym h ∙ (lengths_pass part).1 l))
    go (later h (here g e)) = number_tells why Refusal.Layout (sym e)
    go (later h (later _ x9)) = elim x9 [ ]

-- ten bytes, and the eleven with class zero, read as the same
pub class_zero_alike : (part : List ℕ) (a : ActionRead) → length part ≡ 10 → ReadsAction part a → ReadsAction (part ++ 0 ∷ []) a
class_zero_alike part a ten r = record { says = r.says ∙ same }
  where
    eleven : length (part ++ 0 ∷ []) ≡ 11
    eleven = length-append part (0 ∷ []) ∙ rw ten

    bytes : with_class (part ++ 0 ∷ []) ≡ with_class part
    bytes = eleven_with_class (part ++ 0 ∷ []) eleven ∙ sym (ten_with_class part ten)

    fields : fields_of (part ++ 0 ∷ []) ≡ fields_of part
    fields = ap fields_of (sym (ten_with_class part ten)) ∙ fields_with_class part

    same : checked (action_checks part) refused (accepted (with_class part)) ≡ checked (action_checks (part ++ 0 ∷ [])) refused (accepted (with_class (part ++ 0 ∷ [])))
    same =
        ap (λ (l : List ℕ). checked (action_checks part) refused (accepted l)) (sym bytes)
        ∙ ap₂ (λ (missing : Bool) (f : Fields). checked ((13 when missing) ∷ (2 when layout_fault f) ∷ []) refused (accepted (with_class (part ++ 0 ∷ []))))
        ((lengths_pass part).1 (inl ten) ∙ sym ((lengths_pass (part ++ 0 ∷ [])).1 (inr eleven)))
        (sym fields)
