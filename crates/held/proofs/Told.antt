-- What a host reads off the answer of an entry that makes a book and writes its sheet, and what it then holds.
use Rattle.std.specs.Prelude.{Ok, Err}
use mathlib.Core.Path.{◌≡◌, refl, sym, ap, ◌∙◌}
use mathlib.Core.List.{List, [], ◌∷◌}
use Prim.Native.Nat.{ℕ, ◌≤◌, ◌/◌, ◌%◌}
use native.Mathlib.Omega.{arith}
use borrow.Author.Tests.{eq-eqb, ne_eqb, le-ltb}
use lib.ListN.{length, take}
use Rattle.table.specs.Numbers.{number_of}
use Rattle.table.specs.Reply.{Reply, refused}
use Rattle.table.specs.Checks.{Check, Given, Passed, Passed.none, Passed.passes, ◌when◌, ◌below◌}
use Rattle.table.proofs.Checks.{zero_one, passed_accepts, not_given_and_passed, given_before, passed_both}
use Rattle.packing.specs.Packed.{packed, Tells}
use Rattle.packing.proofs.Unpacking.{accepted_unpacks, refusal_shows}
use Rattle.book.specs.declared.Book.{Book}
use Rattle.written.specs.Sheets.{sheet_of, written_says, room_checks, WritesSheet, Written}
use Rattle.written.proofs.Entries.{sheet_answered}
use Rattle.held.specs.Lives.{held_then}

module _ (checks : List Check) (made : Book) (sheet before after : List ℕ) (r : ℕ) (told : Tells (WritesSheet checks made before after) written_says r) where
  abbrev room : Check
  room = 13 when length before below length (sheet_of made)

  -- accepted: 0 in the low byte, and the host holds the sheet of the book that was made
  pub told_passed : Passed checks → length (sheet_of made) ≤ length before → (r % 256 ≡ 0) × (held_then sheet after r ≡ sheet_of made)
  told_passed p fits = go told.0 refl
    where
      all : Passed (room_checks checks made before)
      all = passed_both checks (room ∷ []) p (passes (le-ltb (length before) (length (sheet_of made)) fits) none)

      go : (w : Written) → told.0 ≡ w → (r % 256 ≡ 0) × (held_then sheet after r ≡ sheet_of made)
      go (Ok bytes) e =
          let s = sheet_answered checks made before after told.0 told.1 bytes e in
          let is : r ≡ packed (Reply.accepted (bytes ∷ [])) = told.2 ∙ ap (λ (w : Written). packed (written_says w)) e in
          let u = accepted_unpacks (bytes ∷ []) in
          let low : r % 256 ≡ 0 = ap (λ (k : ℕ). k % 256) is ∙ u.0 in
          (low, rw (eq-eqb (r % 256) 0 low) (ap (λ (k : ℕ). take k after) (ap (λ (k : ℕ). k / 256) is ∙ u.1) ∙ s.2))
      go (Err why) e =
          let f : refused (number_of why) ≡ Reply.accepted (length (sheet_of made) ∷ []) =
          sym (ap written_says e) ∙ told.1.says ∙ passed_accepts refused (Reply.accepted (length (sheet_of made) ∷ [])) (room_checks checks made before) all in
          absurd (zero_one cc)

  -- refused: another low byte, and the host holds what it held
  pub told_given : (k : ℕ) → Given k checks → ((r % 256 ≡ 0) → ⊥) × (held_then sheet after r ≡ sheet)
  told_given k g = go told.0 refl
    where
      here : Given k (room_checks checks made before)
      here = given_before checks (room ∷ []) g

      go : (w : Written) → told.0 ≡ w → ((r % 256 ≡ 0) → ⊥) × (held_then sheet after r ≡ sheet)
      go (Ok bytes) e =
          absurd (not_given_and_passed k (room_checks checks made before) here (sheet_answered checks made before after told.0 told.1 bytes e).0)
      go (Err why) e =
          let is : r ≡ packed (refused (number_of why)) = told.2 ∙ ap (λ (w : Written). packed (written_says w)) e in
          let s = (refusal_shows why).1 in
          let low : r % 256 ≡ 0 → ⊥ = λ z. let f = sym (ap (λ (k : ℕ). k % 256) is) ∙ z in omega arith in
          (low, rw (ne_eqb (r % 256) 0 low) refl)
