-- docs/RULES.md, 'Numbers handed back': "A number is given where its line holds and every check before it has passed, and nowhere
-- else." The theorems named here stand in proofs/Checks.antt and proofs/Meaning.antt.
use Rattle.std.specs.Prelude.{◌≡◌, Bool, true, false, cond, List, [], ◌∷◌, ℕ, leb, ltb}

-- a number of the table, and whether its line holds. `when_exactly` says that a check by itself gives its number exactly where its
-- test does.
pub record Check : Type 0 where
  pub number : ℕ
  pub holds : Bool

infix 20 ◌when◌
abbrev pub ◌when◌ : ℕ → Bool → Check
k when b = record { number = k; holds = b }

-- `below_exactly` and `not_below_exactly` say that these tests are < and ≤
infix 45 ◌below◌ ◌not_below◌
abbrev pub ◌below◌ : ℕ → ℕ → Bool
a below b = ltb a b

abbrev pub ◌not_below◌ : ℕ → ℕ → Bool
a not_below b = leb b a

-- the numbers of an entry's checks, in the order in which they are judged: what the line of docs/RULES.md for the entry lists.
-- `numbers_all` and `numbers_at` say that each check has its number there, in its place.
abbrev pub numbers : List Check → List ℕ
numbers [] = []
numbers (c ∷ cs) = c.number ∷ numbers cs

-- what the first check whose line holds makes of its number; where no line holds, what an accepted call gives: `given_refuses` and
-- `passed_accepts` say so over what follows, and `given_or_passed`, `given_once` and `not_given_and_passed` that it is always one of the two.
abbrev pub checked {ℓ} : {A : Type ℓ} → List Check → (ℕ → A) → A → A
checked [] refuse accept = accept
checked (c ∷ cs) refuse accept = cond c.holds (refuse c.number) (checked cs refuse accept)

-- the line of number k holds and no earlier one does. `given_exactly` says it by places.
pub data Given (k : ℕ) : List Check → Type 0 where
  here : {c : Check} {cs : List Check} → c.holds ≡ true → c.number ≡ k → Given k (c ∷ cs)
  later : {c : Check} {cs : List Check} → c.holds ≡ false → Given k cs → Given k (c ∷ cs)

-- no line holds. `passed_exactly` says it by places.
pub data Passed : List Check → Type 0 where
  none : Passed []
  passes : {c : Check} {cs : List Check} → c.holds ≡ false → Passed cs → Passed (c ∷ cs)
