-- docs/RULES.md, 'Notices' and 'Numbers handed back': which links each of the three targets names, and what 4, 5 and 6 say of each. What holds
-- of a notice is in Notices.antt, with the theorems that pin both.
use Rattle.std.specs.Prelude.{◌≡◌, Bool, false, cond, not, ◌&&◌, ◌||◌, ◌⊎◌, ℕ, ◌+◌, eqb}
use Rattle.std.specs.Int.Bits.{bit_and}
use Rattle.std.specs.Int.Count.{ones}
use Rattle.table.specs.Checks.{◌below◌, ◌not_below◌}
use Rattle.fabric.specs.Labels.{size, bit}
use Rattle.fabric.specs.Links.{lands}
use Rattle.notices.specs.declared.Target.{Target}
use Rattle.notices.specs.declared.Target.TheVariants.{Links, Switch, Pattern}

-- "The set is a sum, of 1 for straight, 2 for plus and 4 for minus, and lies between 1 and 7": code c is in the set where the
-- set's bit c is one. `seven_sets` is the table of all seven, and `sets_add_up` says that each is the sum of what it has
-- (proofs/Sets).
abbrev pub set_has : ℕ → ℕ → Bool
set_has set c = eqb (bit c set) 1

-- "In column i, other than 0, it names three links of stage i-1, those that end at j: straight out of j, plus out of j - 2^(i-1),
-- minus out of j + 2^(i-1)": the link of code c that leaves switch j at stage i is an input link of switch w of column i + 1;
-- minus from w lands 2^i below it, plus 2^i above. `lands_inputs` says that these are the links that land on w (proofs/Named).
abbrev pub Input : ℕ → ℕ → ℕ → ℕ → ℕ → Type 0
Input n i w j c = ((c ≡ 0) × (j ≡ w)) ⊎ (((c ≡ 1) × (j ≡ lands n i 2 w)) ⊎ ((c ≡ 2) × (j ≡ lands n i 1 w)))

-- Whether a target names the link of code c that leaves switch j at stage i of a fabric of n stages.
-- Links: "a stage below n, a switch and a set".
-- Switch: three links of the stage before its column, "those that end at j"; "In column 0, where no link ends, it names the three links of
-- stage 0 that leave the switch".
-- Pattern: "It names the links of the set at every switch that has the value's bits where the mask has ones."
abbrev pub target_names : ℕ → Target → ℕ → ℕ → ℕ → Bool
target_names n (Links stage switch set) i j c = eqb i stage && eqb j switch && set_has set c
target_names n (Switch column switch) i j c = cond (eqb column 0) (eqb i 0 && eqb j switch) (eqb (i + 1) column && eqb (lands n i c j) switch)
target_names n (Pattern stage value mask set) i j c = eqb i stage && eqb (bit_and j mask) value && set_has set c

-- 4: "a stage, column or switch that the fabric does not have (the value of a pattern is left to 5)"
abbrev pub target_outside : ℕ → Target → Bool
target_outside n (Links stage switch set) = stage not_below n || switch not_below size n
target_outside n (Switch column switch) = n below column || switch not_below size n
target_outside n (Pattern stage value mask set) = stage not_below n

-- "a set of 0 or above 7": `set_within` (proofs/Fit)
abbrev pub bad_set : ℕ → Bool
bad_set set = set below 1 || 7 below set

-- 5: "a set of 0 or above 7, a one of the mask at bit n or higher, a value with a one outside of the mask"
abbrev pub target_bad : ℕ → Target → Bool
target_bad n (Links stage switch set) = bad_set set
target_bad n (Switch column switch) = false
target_bad n (Pattern stage value mask set) = bad_set set || mask not_below size n || not (eqb (bit_and value mask) value)

-- 6: "A mask of no ones or of one is too wide"
abbrev pub target_wide : Target → Bool
target_wide (Links stage switch set) = false
target_wide (Switch column switch) = false
target_wide (Pattern stage value mask set) = ones mask below 2
