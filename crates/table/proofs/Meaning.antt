-- What the definitions of checks and replies say, with < and ≤, over every place of a list and for every number.
use mathlib.Core.Path.{◌≡◌, refl, sym, ◌∙◌}
use mathlib.Core.Bool.{Bool, true, false, true≢false}
use mathlib.Core.List.{List, [], ◌∷◌}
use mathlib.Core.Logic.{◌↔◌}
use Prim.Native.Nat.{ℕ, zero, suc, ◌≤◌, ◌<◌}
use native.Mathlib.Omega.{arith}
use borrow.Author.Tests.{ltb-true, lt-ltb, leb-true, le-leb}
use lib.ListN.{length, get_or}
use Rattle.table.specs.declared.Refusal.{Refusal}
use Rattle.table.specs.Numbers.{number_of}
use Rattle.table.specs.Reply.{Reply, refused, Numbered}
use Rattle.table.specs.Checks.{Check, ◌when◌, ◌below◌, ◌not_below◌, numbers, Given, Given.here, Given.later, Passed, Passed.none, Passed.passes}
use Rattle.table.proofs.Numbers.{above_zero}
use Rattle.table.proofs.Checks.{passed_nth}

-- the two tests
pub below_exactly : (a b : ℕ) → (a below b ≡ true) ↔ (a < b)
below_exactly a b = (ltb-true a b, lt-ltb a b)

pub not_below_exactly : (a b : ℕ) → (a not_below b ≡ true) ↔ (b ≤ a)
not_below_exactly a b = (leb-true b a, le-leb b a)

-- the line of the check at place i of a list holds; past the end none does
abbrev pub LineHolds : List Check → ℕ → Type 0
LineHolds cs i = (get_or cs i (0 when false)).holds ≡ true

-- the numbers of a list of checks: one for each check, in their places
pub numbers_all : (cs : List Check) → length (numbers cs) ≡ length cs
numbers_all [] = refl
numbers_all (c ∷ cs) = let e = numbers_all cs in omega arith

pub numbers_at : (cs : List Check) (i : ℕ) → get_or (numbers cs) i 0 ≡ (get_or cs i (0 when false)).number
numbers_at [] i = refl
numbers_at (c ∷ cs) zero = refl
numbers_at (c ∷ cs) (suc i) = numbers_at cs i

-- "where its line holds and every check before it has passed, and nowhere else"
abbrev pub FirstHolds : ℕ → List Check → ℕ → Type 0
FirstHolds k cs i =
    LineHolds cs i × ((get_or cs i (0 when false)).number ≡ k) × ((j : ℕ) → j < i → (get_or cs j (0 when false)).holds ≡ false)

pub given_exactly : (k : ℕ) (cs : List Check) → Given k cs ↔ ((i : ℕ) × FirstHolds k cs i)
given_exactly k cs = (place cs, λ w. back cs w.0 w.1)
  where
    before : (c : Check) (ds : List Check) (i : ℕ) → c.holds ≡ false → ((j : ℕ) → j < i → (get_or ds j (0 when false)).holds ≡ false)
        → (j : ℕ) → j < suc i → (get_or (c ∷ ds) j (0 when false)).holds ≡ false
    before c ds i h f zero l = h
    before c ds i h f (suc j) l = f j (omega arith)

    place : (ds : List Check) → Given k ds → (i : ℕ) × FirstHolds k ds i
    place (c ∷ ds) (here h e) = (0, (h, e, λ j l. absurd (omega arith)))
    place (c ∷ ds) (later h g) = let w = place ds g in (suc w.0, (w.1.0, w.1.1, before c ds w.0 h w.1.2))
    place [] x' = elim x' [ ]

    back : (ds : List Check) (i : ℕ) → FirstHolds k ds i → Given k ds
    back [] i w = absurd (true≢false (sym w.0))
    back (c ∷ ds) zero w = here w.0 w.1
    back (c ∷ ds) (suc i) w = later (w.2 0 (omega arith)) (back ds i (w.0, w.1, λ j l. w.2 (suc j) (omega arith)))

-- a list is passed exactly when none of its lines holds
pub passed_exactly : (cs : List Check) → Passed cs ↔ ((i : ℕ) → LineHolds cs i → ⊥)
passed_exactly cs = (λ p i h. true≢false (sym h ∙ passed_nth cs i p), passing cs)
  where
    unheld : (b : Bool) → (b ≡ true → ⊥) → b ≡ false
    unheld true h = absurd (h refl)
    unheld false h = refl

    passing : (ds : List Check) → ((i : ℕ) → LineHolds ds i → ⊥) → Passed ds
    passing [] h = none
    passing (c ∷ ds) h = passes (unheld c.holds (h 0)) (passing ds (λ i. h (suc i)))

-- a number and the test beside it
pub when_exactly : (j k : ℕ) (b : Bool) → Given j ((k when b) ∷ []) ↔ ((b ≡ true) × (j ≡ k))
when_exactly j k b = (told, λ w. here w.0 (sym w.1))
  where
    told : Given j ((k when b) ∷ []) → (b ≡ true) × (j ≡ k)
    told (here h e) = (h, sym e)
    told (later _ x6) = elim x6 [ ]

-- a refusal by a number alone has that number and no values
pub refused_exactly : (k j : ℕ) (values : List ℕ) → (refused k ≡ Reply.refused_with j values) ↔ ((k ≡ j) × (values ≡ []))
refused_exactly k j values = (λ e. ((cc), (cc)), λ w. let p = w.0 in let q = w.1 in cc)

-- a reply is numbered exactly when it is no refusal with number 0, and every refusal of the table is
pub numbered_exactly : (k : ℕ) (values : List ℕ) → Numbered (Reply.refused_with k values) ↔ (k ≡ 0 → ⊥)
numbered_exactly zero values = (λ l. absurd (omega arith), λ h. absurd (h refl))
numbered_exactly (suc k) values = (λ l e. omega arith, λ h. omega arith)

pub refusal_numbered : (a : Refusal) → Numbered (refused (number_of a))
refusal_numbered a = above_zero a
