-- docs/RULES.md, 'Classes': the class of a notice, and which notices a route counts. The theorems named here stand in proofs/Classes.
use Rattle.std.specs.Prelude.{Bool, ◌||◌, ℕ, eqb}
use Rattle.table.specs.Checks.{◌below◌}
use Rattle.notices.specs.declared.Notice.{Notice}

-- "The class of a notice is 0, broken, or 1, busy", and a route a choice, 0 or 1: "a class of 2 or more" is refused. `class_within`
abbrev pub bad_class : ℕ → Bool
bad_class class = 1 below class

-- whether a notice is of class 0, and whether it is of class 1: `broken_exactly`, `busy_exactly`
abbrev pub broken : Notice → Bool
broken x = eqb x.class 0

abbrev pub busy : Notice → Bool
busy x = eqb x.class 1

-- "0, and all notices count; 1, and the broken ones alone do": whether a route of this choice counts the notice. `all_counted` says that choice 0
-- counts each, `broken_counted` that choice 1 counts exactly the broken ones.
abbrev pub counts : ℕ → Notice → Bool
counts choice x = eqb choice 0 || broken x
