-- docs/RULES.md, 'Notices', 'Numbers handed back' and 'Classes': which links a notice names, and when filing refuses it.
use Rattle.std.specs.Prelude.{Bool, cond, ◌||◌, ℕ, zero, suc, ◌+◌}
use Rattle.fabric.specs.Labels.{size}
use Rattle.notices.specs.declared.Notice.{Notice}
use Rattle.notices.specs.Classes.{bad_class}
use Rattle.notices.specs.Targets.{target_names, target_outside, target_bad, target_wide}

-- Whether a notice names the link of code c that leaves switch j at stage i of a fabric of n stages: where its target does.
-- Links: `links_names` says it with equations.
-- Switch: `column_0_names_outputs` says which links column 0 names, `column_0_as_links` that a links notice can name them too, and
-- `other_columns_as_before` that every other column names what docs/RULES.md says: its three input links, `switch_names_inputs`, and none of
-- another stage, `switch_names_before`. There is no second meaning: `switch_names_once`.
-- Pattern: `pattern_names_exactly` says it bit by bit.
-- All are in proofs/Named.
abbrev pub names : ℕ → Notice → ℕ → ℕ → ℕ → Bool
names n x i j c = target_names n x.target i j c

-- 4. `links_in_fabric`, `switch_in_fabric` and `pattern_in_fabric` say with < and ≤ when it is not given (proofs/Fit).
abbrev pub outside_fabric : ℕ → Notice → Bool
outside_fabric n x = target_outside n x.target

-- 5, of the target, and docs/RULES.md, 'Classes': "Handed to an entry such a class is 5". `links_in_fields`, `switch_in_fields` and
-- `pattern_in_fields` say by numbers and bits when it is not given (proofs/Fit).
abbrev pub bad_field : ℕ → Notice → Bool
bad_field n x = target_bad n x.target || bad_class x.class

-- 6. `pattern_narrow` says that two different bits of any other mask are ones (proofs/Fit); `too_wide_names_half` and
-- `narrow_names_quarter` say what it means in switches (proofs/Counted).
abbrev pub too_wide : Notice → Bool
too_wide x = target_wide x.target

-- a notice that filing refuses for itself, by 4, 5 or 6. `links_fit`, `switch_fit` and `pattern_fit` list what docs/RULES.md
-- asks of each target (proofs/Fit).
abbrev pub unfit : ℕ → Notice → Bool
unfit n x = outside_fabric n x || bad_field n x || too_wide x

-- how many of the labels 0 to k-1 a test picks: one, where it is one label's own (`one_picked`, proofs/Counted)
unfoldable pub how_many : (ℕ → Bool) → ℕ → ℕ
how_many test zero = 0
how_many test (suc k) = how_many test k + cond (test k) 1 0

-- how many switches have their link of code c at stage i named by a notice: one by a links notice (`links_name_one`), 2^(n -
-- ones) by a pattern (`pattern_names_many`), both in proofs/Counted
abbrev pub switches_named : ℕ → Notice → ℕ → ℕ → ℕ
switches_named n x i c = how_many (λ j. names n x i j c) (size n)
