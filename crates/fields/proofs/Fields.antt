-- What the action reader gives for each action: which it is, and its eight fields.
use Rattle.std.specs.Prelude.{Ok, Err}
use mathlib.Core.Path.{◌≡◌, refl, sym, ap, ◌∙◌}
use mathlib.Core.Bool.{true, false}
use mathlib.Core.List.{List, [], ◌∷◌}
use Prim.Native.Nat.{ℕ}
use native.Mathlib.Omega.{arith}
use lib.ListN.{length, get_or, get_or-eq_default}
use Rattle.table.specs.Reply.{Reply.accepted}
use Rattle.table.specs.Checks.{numbers, ◌when◌}
use Rattle.notices.specs.declared.Target.{Target}
use Rattle.notices.specs.declared.Target.TheVariants.{Links, Switch, Pattern}
use Rattle.actions.specs.Layout.{filing_of}
use Rattle.actions.specs.declared.Action.{Action}
use Rattle.actions.specs.Format.{IsAction, fields_of, bytes_of, ActionRead}
use Rattle.actions.specs.Entries.{ReadsAction}
use Rattle.actions.proofs.Layouts.{word_read, class_read}
use Rattle.actions.proofs.Actions.{read_is_written}
use Rattle.fields.specs.Fields.{kind_says, in_order, room_check, fields_checks}

-- the order of the checks
pub fields_order : (part memory : List ℕ) → numbers (fields_checks part memory) ≡ 13 ∷ 2 ∷ 13 ∷ []
fields_order part memory = refl

-- "the lent memory is not long enough": eight places are enough, and seven are not
pub eight_are_enough : room_check (0 ∷ 0 ∷ 0 ∷ 0 ∷ 0 ∷ 0 ∷ 0 ∷ 0 ∷ []) ≡ (13 when false) ∷ []
eight_are_enough = refl

pub seven_are_too_few : room_check (0 ∷ 0 ∷ 0 ∷ 0 ∷ 0 ∷ 0 ∷ 0 ∷ []) ≡ (13 when true) ∷ []
seven_are_too_few = refl

-- the fields of each action, "action, number, kind, stage, switch, mask, set" and class: "In kind 1 the mask is 0", "In kind 2 the column stands in the
-- stage's byte, mask and set are 0", "In kind 3 the value stands where the switch does"
pub links_fields : (k i j set class : ℕ) → in_order (fields_of (filing_of k (Links i j set) class)) ≡ 1 ∷ k ∷ 1 ∷ i ∷ j ∷ 0 ∷ set ∷ class ∷ []
links_fields k i j set class = rw (word_read k, word_read j)

pub switch_fields : (k column j class : ℕ) → in_order (fields_of (filing_of k (Switch column j) class)) ≡ 1 ∷ k ∷ 2 ∷ column ∷ j ∷ 0 ∷ 0 ∷ class ∷ []
switch_fields k column j class = rw (word_read k, word_read j)

pub pattern_fields : (k i value mask set class : ℕ) → in_order (fields_of (filing_of k (Pattern i value mask set) class)) ≡ 1 ∷ k ∷ 3 ∷ i ∷ value ∷ mask ∷ set ∷ class ∷ []
pattern_fields k i value mask set class = rw (word_read k, word_read value, word_read mask)

-- "Action 2 is a withdrawal: it has the number, and 0 in every other field."
pub withdraw_fields : (k : ℕ) → in_order (fields_of (bytes_of (Ok (Action.Withdraw k)))) ≡ 2 ∷ k ∷ 0 ∷ 0 ∷ 0 ∷ 0 ∷ 0 ∷ 0 ∷ []
withdraw_fields k = rw (word_read k)

-- "Action 3 is a route: the source in the switch, the destination in the mask, the choice in the class, and 0 in every other field"
pub route_fields : (s d choice : ℕ) → in_order (fields_of (bytes_of (Ok (Action.Route s d choice)))) ≡ 3 ∷ 0 ∷ 0 ∷ 0 ∷ s ∷ d ∷ 0 ∷ choice ∷ []
route_fields s d choice = rw (word_read s, word_read d)

-- the class of ten bytes is 0
pub ten_bytes_class : (part : List ℕ) → length part ≡ 10 → (fields_of part).class ≡ 0
ten_bytes_class part ten = get_or-eq_default part 0 (omega arith)

first_of_filing : (k : ℕ) (t : Target) (class : ℕ) → get_or (filing_of k t class) 0 0 ≡ 1
first_of_filing k (Links i j set) class = refl
first_of_filing k (Switch column j) class = refl
first_of_filing k (Pattern i value mask set) class = refl

-- the value is the part's own first byte, and a refusal is the action reader's
kind_of_bytes : (a : ActionRead) → IsAction a → kind_says a ≡ accepted (get_or (bytes_of a) 0 0 ∷ [])
kind_of_bytes (Ok (Action.File x)) i = ap (λ b. accepted (b ∷ [])) (sym (first_of_filing x.number x.target x.class))
kind_of_bytes (Ok (Action.Withdraw k)) i = refl
kind_of_bytes (Ok (Action.Route s d choice)) i = refl
kind_of_bytes (Err _) i = elim i [ ]

pub kind_is_first_byte : (part : List ℕ) (a : ActionRead) → IsAction a → ReadsAction part a → kind_says a ≡ accepted (get_or part 0 0 ∷ [])
kind_is_first_byte part a i r =
    kind_of_bytes a i ∙ ap (λ (l : List ℕ). accepted (get_or l 0 0 ∷ [])) (read_is_written part a i r) ∙ ap (λ (b : ℕ). accepted (b ∷ [])) (class_read part 0)
