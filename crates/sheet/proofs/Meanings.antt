-- What the definitions say, before anything is proved with them.
use Rattle.std.specs.Prelude.{Ok}
use mathlib.Core.Path.{◌≡◌, refl}
use mathlib.Core.Bool.{Bool, true, false, not, ◌||◌}
use mathlib.Core.Logic.{◌⊎◌, inl, inr, ◌↔◌}
use mathlib.Core.List.{List, [], ◌∷◌}
use Prim.Native.Nat.{ℕ, ◌+◌, ◌*◌, ◌≤◌}
use Prim.Native.Char.{code}
use borrow.Author.Tests.{le-ltb, ltb-false, eqb-true, not-false, le-leb, leb-true}
use lib.Dec.{eqb}
use lib.ListN.{length, get_or}
use Rattle.table.specs.Reply.{Reply, answer_says, Answer}
use Rattle.table.specs.Checks.{numbers, ◌when◌, ◌below◌}
use Rattle.table.proofs.Checks.{neither, neither_of, equal}
use Rattle.actions.specs.Layout.{header_length, bytes_before}
use Rattle.sheet.specs.Format.{header_bytes, count_in, each_in, headed}
use Rattle.sheet.specs.Entries.{header_says, wrong_version, wrong_length, header_checks, there_checks}

-- "A sheet begins with a header of eight bytes: the letters FSH, the version in two bytes, n in one, and the count of actions in two.", of the worked example:
-- n = 3, eleven actions; and of version 2, with a count of two bytes
pub header_spelled :
    (header_bytes 1 3 11 ≡ code "F" ∷ code "S" ∷ code "H" ∷ 0 ∷ 1 ∷ 3 ∷ 0 ∷ 11 ∷ [])
    × (header_bytes 2 12 258 ≡ code "F" ∷ code "S" ∷ code "H" ∷ 0 ∷ 2 ∷ 12 ∷ 1 ∷ 2 ∷ [])
header_spelled = (refl, refl)

-- so many bytes that the first action lies after them
pub header_bytes_length : (version n count : ℕ) → length (header_bytes version n count) ≡ header_length
header_bytes_length version n count = refl

-- 14: "with another mark or version": 1 and 2 are right
pub versions_pass : (version : ℕ) → (wrong_version version ≡ false) ↔ ((version ≡ 1) ⊎ (version ≡ 2))
versions_pass version = ((λ e. there (eqb version 1) refl (not-false (eqb version 1 || eqb version 2) e)), back)
  where
    there : (b : Bool) → eqb version 1 ≡ b → (eqb version 1 || eqb version 2) ≡ true → (version ≡ 1) ⊎ (version ≡ 2)
    there true h e = inl (eqb-true version 1 h)
    there false h e = inr (eqb-true version 2 (rw h at e))

    back : (version ≡ 1) ⊎ (version ≡ 2) → wrong_version version ≡ false
    back (inl e) = rw e
    back (inr e) = rw e

-- "Header (sheet): 14, 1, 15", and then "13 where the count is k or less"
pub header_order : (sheet : List ℕ) → numbers (header_checks sheet) ≡ 14 ∷ 1 ∷ 15 ∷ []
header_order sheet = refl

pub there_order : (sheet : List ℕ) (k : ℕ) → numbers (there_checks sheet k) ≡ 14 ∷ 1 ∷ 15 ∷ 13 ∷ []
there_order sheet k = refl

-- "Past these it answers n, the count and the version", of the worked example; an action that is there says nothing more
pub said_when_accepted : (header_says (headed 3 11 1) ≡ Reply.accepted (3 ∷ 11 ∷ 1 ∷ [])) × (answer_says (Ok tt) ≡ Reply.accepted [])
said_when_accepted = (refl, refl)

-- 15: "a count of more than 4,096 actions, or another length than the count asks for", "A sheet of version 1 is 8 + 10 x count bytes long", or with eleven
-- bytes an action 8 + 11 x count
pub length_exactly : (sheet : List ℕ) → (wrong_length sheet ≡ false) ↔ ((count_in sheet ≤ 4096) × (length sheet ≡ 8 + each_in sheet * count_in sheet))
length_exactly sheet =
    let long : ℕ = bytes_before (each_in sheet) (count_in sheet) in (
      (λ e.
          let w = neither (4096 below count_in sheet) (not (eqb (length sheet) long)) e in
          (ltb-false 4096 (count_in sheet) w.0, eqb-true (length sheet) long (not-false (eqb (length sheet) long) w.1))),
      (λ w. neither_of (4096 below count_in sheet) (not (eqb (length sheet) long)) (le-ltb 4096 (count_in sheet) w.0) (equal {x = length sheet} {y = long} w.1)),
    )

-- 13: "the count is k or less"
pub beyond_exactly : (sheet : List ℕ) (k : ℕ) → ((get_or (there_checks sheet k) 3 (0 when false)).holds ≡ true) ↔ (count_in sheet ≤ k)
beyond_exactly sheet k = ((λ e. leb-true (count_in sheet) k e), (λ h. le-leb (count_in sheet) k h))
