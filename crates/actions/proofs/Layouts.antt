-- Laws of the format: fields and bytes are each other read backward, and bytes without a layout fault are an action's.
use mathlib.Core.Path.{◌≡◌, refl, sym, ap, ◌∙◌}
use mathlib.Core.Bool.{Bool, true, false, cond, not, ◌||◌, true≢false}
use mathlib.Core.List.{List, [], ◌∷◌, ◌++◌}
use Prim.Native.Nat.{ℕ, zero, suc, ◌+◌, ◌*◌, ◌-◌, ◌/◌, ◌%◌, ◌≤◌, ◌<◌}
use native.Mathlib.Omega.{arith}
use borrow.Author.Tests.{eq-eqb, ne_eqb, eqb-true, not-false}
use lib.Dec.{eqb}
use lib.ListN.{length, drop, get_or, replicate, drop_of_length-le, length-append, length-replicate}
use lib.Seq.{drop-cons}
use Rattle.table.proofs.Checks.{neither}
use Rattle.notices.specs.Classes.{bad_class}
use Rattle.notices.proofs.Classes.{class_within}
use Rattle.actions.specs.Layout.{action_bytes}
use Rattle.actions.specs.declared.Fields.{Fields}
use Rattle.actions.specs.Format.{field_bytes, fields_of, with_class, some_used, kind_fault, withdrawing_fault, routing_fault, layout_fault}

-- "In every number of two bytes the high byte comes first.": what is read is what was written, and the other way round
pub word_read : (x : ℕ) → x / 256 * 256 + x % 256 ≡ x
word_read x = omega arith

pub high_written : (a b : ℕ) → b < 256 → (a * 256 + b) / 256 ≡ a
high_written a b h = omega arith

pub low_written : (a b : ℕ) → b < 256 → (a * 256 + b) % 256 ≡ b
low_written a b h = omega arith

-- the fields of what fields are written as
pub fields_read : (action number kind stage switch mask links class : ℕ)
    → fields_of (action_bytes action number kind stage switch mask links class)
    ≡ record { action = action; number = number; kind = kind; stage = stage; switch = switch; mask = mask; set = links; class = class }
fields_read action number kind stage switch mask links class = rw (word_read number, word_read switch, word_read mask)

-- the elements from place i on, one by one
abbrev pub spelled : ℕ → ℕ → List ℕ → List ℕ
spelled zero i l = []
spelled (suc n) i l = get_or l i 0 ∷ spelled n (suc i) l

pub spells : (n i : ℕ) (l : List ℕ) → i + n ≡ length l → drop i l ≡ spelled n i l
spells zero i l e = let h : length l ≤ i = omega arith in drop_of_length-le l h
spells (suc n) i l e = drop-cons l i 0 (omega arith) ∙ ap (λ (r : List ℕ). get_or l i 0 ∷ r) (spells n (suc i) l (omega arith))

-- and any eleven bytes are what their fields are written as
eleven_written : (part : List ℕ) → length part ≡ 11 → ((i : ℕ) → get_or part i 0 < 256) → field_bytes (fields_of part) ≡ part
eleven_written part l bytes =
    let at : ℕ → ℕ = λ i. get_or part i 0 in
    rw (high_written (at 1) (at 2) (bytes 2), low_written (at 1) (at 2) (bytes 2), high_written (at 5) (at 6) (bytes 6), low_written (at 5) (at 6) (bytes 6), high_written (at 7) (at 8) (bytes 8), low_written (at 7) (at 8) (bytes 8))
    (sym (spells 11 0 part (omega arith)))

-- a byte that is not there reads as zero, and so does one that is there and zero
zeros_read : (l : List ℕ) (k i : ℕ) → get_or (l ++ replicate k 0) i 0 ≡ get_or l i 0
zeros_read [] zero i = refl
zeros_read [] (suc k) zero = refl
zeros_read [] (suc k) (suc i) = zeros_read [] k i
zeros_read (x ∷ l) k zero = refl
zeros_read (x ∷ l) k (suc i) = zeros_read l k i

pub class_read : (part : List ℕ) (i : ℕ) → get_or (with_class part) i 0 ≡ get_or part i 0
class_read part i = zeros_read part (11 - length part) i

-- so a part with its class has the part's fields
pub fields_with_class : (part : List ℕ) → fields_of (with_class part) ≡ fields_of part
fields_with_class part =
    let at = class_read part in
    rw (at 0, at 1, at 2, at 3, at 4, at 5, at 6, at 7, at 8, at 9, at 10)

pub length_with_class : (part : List ℕ) → length part ≤ 11 → length (with_class part) ≡ 11
length_with_class part h = length-append part (replicate (11 - length part) 0) ∙ rw (length-replicate {A = ℕ} (11 - length part) 0) (omega arith)

pub fields_written : (part : List ℕ) → length part ≤ 11 → ((i : ℕ) → get_or part i 0 < 256) → field_bytes (fields_of part) ≡ with_class part
fields_written part h bytes =
    ap field_bytes (sym (fields_with_class part)) ∙ eleven_written (with_class part) (length_with_class part h) (λ i. rw (class_read part i) (bytes i))

pub not_cond : (b : Bool) → not b ≡ cond b false true
not_cond true = refl
not_cond false = refl

pub grouped : (a b c d e f : Bool) → (a || (b || c) || (d || (e || f))) ≡ (a || (b || (c || (d || (e || (f || false))))))
grouped true b c d e f = refl
grouped false true c d e f = refl
grouped false false true d e f = refl
grouped false false false true e f = refl
grouped false false false false true f = refl
grouped false false false false false true = refl
grouped false false false false false false = refl

-- fields that are not used hold zero
abbrev Unused : List ℕ → Type 0
Unused [] = Unit
Unused (x ∷ xs) = (x ≡ 0) × Unused xs

unused : (l : List ℕ) → some_used l ≡ false → Unused l
unused [] e = tt
unused (x ∷ xs) e =
    let h = neither (not (eqb x 0)) (some_used xs) e in
    (eqb-true x 0 (not-false (eqb x 0) h.0), unused xs h.1)

module _ (f : Fields) where
  -- the bytes of each action, where nothing is at fault
  pub links_bytes : f.action ≡ 1 → f.kind ≡ 1 → f.mask ≡ 0 → action_bytes 1 f.number 1 f.stage f.switch 0 f.set f.class ≡ field_bytes f
  links_bytes a k m = rw (a, k, m)

  pub switch_bytes : f.action ≡ 1 → f.kind ≡ 2 → f.mask ≡ 0 → f.set ≡ 0 → action_bytes 1 f.number 2 f.stage f.switch 0 0 f.class ≡ field_bytes f
  switch_bytes a k m s = rw (a, k, m, s)

  pub pattern_bytes : f.action ≡ 1 → f.kind ≡ 3 → action_bytes 1 f.number 3 f.stage f.switch f.mask f.set f.class ≡ field_bytes f
  pattern_bytes a k = rw (a, k)

  pub withdrawing_bytes : f.action ≡ 2 → withdrawing_fault f ≡ false → action_bytes 2 f.number 0 0 0 0 0 0 ≡ field_bytes f
  withdrawing_bytes a e =
      let u = unused (f.kind ∷ f.stage ∷ f.switch ∷ f.mask ∷ f.set ∷ f.class ∷ []) e in
      rw (a, u.0, u.1.0, u.1.1.0, u.1.1.1.0, u.1.1.1.1.0, u.1.1.1.1.1.0)

  pub routing_bytes : f.action ≡ 3 → routing_fault f ≡ false → action_bytes 3 0 0 0 f.switch f.mask 0 f.class ≡ field_bytes f
  routing_bytes a e =
      let u = unused (f.number ∷ f.kind ∷ f.stage ∷ f.set ∷ []) (neither _ _ e).0 in
      rw (a, u.0, u.1.0, u.1.1.0, u.1.1.1.0)

  -- what a layout without fault says of each action and kind
  pub filing_right : f.action ≡ 1 → layout_fault f ≡ false → (kind_fault f ≡ false) × (f.class ≤ 1)
  filing_right a e = let h = neither (kind_fault f) (bad_class f.class) (rw (eq-eqb f.action 1 a) at e) in (h.0, (class_within f.class).0 h.1)

  pub withdrawing_right : f.action ≡ 2 → layout_fault f ≡ false → withdrawing_fault f ≡ false
  withdrawing_right a e = rw a at e

  pub routing_right : (f.action ≡ 1 → ⊥) → (f.action ≡ 2 → ⊥) → layout_fault f ≡ false → (f.action ≡ 3) × (routing_fault f ≡ false)
  routing_right one two e = go (eqb f.action 3) refl (rw (ne_eqb f.action 1 one, ne_eqb f.action 2 two) at e)
    where
      go : (b : Bool) → eqb f.action 3 ≡ b → cond (eqb f.action 3) (routing_fault f) true ≡ false → (f.action ≡ 3) × (routing_fault f ≡ false)
      go true h x = (eqb-true f.action 3 h, rw h at x)
      go false h x = absurd (true≢false (rw h at x))

  pub choice_right : routing_fault f ≡ false → f.class ≤ 1
  choice_right e = (class_within f.class).0 (neither (some_used (f.number ∷ f.kind ∷ f.stage ∷ f.set ∷ [])) (bad_class f.class) e).1

  pub links_right : f.kind ≡ 1 → kind_fault f ≡ false → f.mask ≡ 0
  links_right k e = (unused (f.mask ∷ []) (rw k at e)).0

  pub switch_right : f.kind ≡ 2 → kind_fault f ≡ false → (f.mask ≡ 0) × (f.set ≡ 0)
  switch_right k e = let u = unused (f.mask ∷ f.set ∷ []) (rw k at e) in (u.0, u.1.0)

  pub pattern_right : (f.kind ≡ 1 → ⊥) → (f.kind ≡ 2 → ⊥) → kind_fault f ≡ false → f.kind ≡ 3
  pattern_right one two e = go (eqb f.kind 3) refl (rw (ne_eqb f.kind 1 one, ne_eqb f.kind 2 two) at e)
    where
      go : (b : Bool) → eqb f.kind 3 ≡ b → cond (eqb f.kind 3) false true ≡ false → f.kind ≡ 3
      go true h x = eqb-true f.kind 3 h
      go false h x = absurd (true≢false (rw h at x))
