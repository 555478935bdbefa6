-- docs/RULES.md, 'The book' and 'Entries': notices by rising number, and what an unused place holds.
use Rattle.std.specs.Prelude.{◌≡◌, Bool, false, cond, not, ◌&&◌, ◌||◌, ℕ, ◌-◌, ◌<◌, eqb, length, replicate}
use Rattle.std.specs.List.{list_any}
use mathlib.Core.List.{List, [], ◌∷◌, ◌++◌, Memᴰ}
use Rattle.table.specs.Checks.{◌below◌, ◌not_below◌}
use Rattle.notices.specs.declared.Notice.{Notice}
use Rattle.notices.specs.declared.Target.{Target}
use Rattle.notices.specs.declared.Target.TheVariants.{Links, Switch, Pattern}
use Rattle.standing.specs.Picked.{some, those}

-- What an unused place of the array holds. No rule of docs/RULES.md: any notice would do, since no place after those in use
-- is read as a notice.
abbrev pub filler : Notice
filler = record { number = 0; target = Links 0 0 0; class = 0 }

-- The 48 places of the array that holds a book's notices, where those of a list stand: the list, and the filler in every place after it:
-- `places_first`, `places_after`, `places_in_all` (proofs/Filings).
unfoldable pub in_places : List Notice → List Notice
in_places l = l ++ replicate (48 - length l) filler

-- whether a notice has this number, and whether it has another
abbrev pub numbered : ℕ → Notice → Bool
numbered k x = eqb x.number k

abbrev pub other_than : ℕ → Notice → Bool
other_than k x = not (numbered k x)

-- whether a notice of this number stands: exactly where one of the list has it (`stands_member`, `member_stands`, proofs/Members)
abbrev pub stands : ℕ → List Notice → Bool
stands k l = some (numbered k) l

-- The list with a notice more, after those of lower number. It has that one, those that it had and no other: `insert_has`,
-- `insert_keeps`, `insert_member`; and stays by rising number: `insert_filed` (proofs/Members).
unfoldable pub insert : Notice → List Notice → List Notice
insert x [] = x ∷ []
insert x (y ∷ ys) = cond (y.number below x.number) (y ∷ insert x ys) (x ∷ y ∷ ys)

-- The list without the notice of this number: all the others stay and it is gone, `without_keeps`, `without_member`
-- (proofs/Members).
abbrev pub without : ℕ → List Notice → List Notice
without k l = those (other_than k) l

-- Notices of which none is bad, by rising number, all numbers above k. `filed_exactly` says it of the list's places (proofs/Members). Of
-- a fabric of n stages `unfit n` is bad: what filing refuses.
unfoldable pub Filed : (Notice → Bool) → ℕ → List Notice → Type 0
Filed bad k [] = Unit
Filed bad k (x ∷ xs) = (k < x.number) × (bad x ≡ false) × Filed bad x.number xs

-- some notice of the list is out of order, or bad: it is not `Filed` (`filed_if`, `filed_passes`, proofs/Filings)
unfoldable pub misfiled : (Notice → Bool) → ℕ → List Notice → Bool
misfiled bad k [] = false
misfiled bad k (x ∷ xs) = k not_below x.number || bad x || misfiled bad x.number xs

-- whether a target is the filler's (`first_target`, proofs/Filings)
abbrev pub is_first_target : Target → Bool
is_first_target (Links stage switch set) = eqb stage 0 && eqb switch 0 && eqb set 0
is_first_target (Switch column switch) = false
is_first_target (Pattern stage value mask set) = false

-- whether a place holds the filler (`filler_by_test`, proofs/Filings)
abbrev pub is_filler : Notice → Bool
is_filler x = eqb x.number 0 && is_first_target x.target && eqb x.class 0

-- some place holds something else than the filler (`unlittered`, `filler_unlittered`, proofs/Filings)
abbrev pub littered : List Notice → Bool
littered l = list_any (λ x. not (is_filler x)) l

-- no notice stands twice in the list, whatever the order: `distinct_places`, `distinct_reordered` (proofs/Distinct)
unfoldable pub Distinct : List Notice → Type 0
Distinct [] = Unit
Distinct (x ∷ xs) = (Memᴰ x xs → ⊥) × Distinct xs

-- The same notices in another order, of a list in which none stands twice: as many, and those of the one are those of the
-- other. So it is where neighbours change places, once or again and again: `exchanged`, `kept_first`, `further` (proofs/Distinct).
pub record Reordered (l m : List Notice) : Type 0 where
  pub as_many : length m ≡ length l
  pub has_each : (x : Notice) → Memᴰ x l → Memᴰ x m
  pub no_other : (x : Notice) → Memᴰ x m → Memᴰ x l
