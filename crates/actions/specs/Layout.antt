-- docs/RULES.md, 'The sheet' and 'Classes': the bytes of an action, and where action k lies in a sheet.
use Rattle.std.specs.Prelude.{cond, List, [], ◌∷◌, ℕ, ◌+◌, ◌*◌, ◌/◌, ◌%◌, eqb}
use Rattle.notices.specs.declared.Notice.{Notice}
use Rattle.notices.specs.declared.Target.{Target}
use Rattle.notices.specs.declared.Target.TheVariants.{Links, Switch, Pattern}

-- "An action has ten bytes in version 1". "In version 2 it has eleven": `lengths_spelled`, `action_laid` (proofs/Laid)
abbrev pub action_length : ℕ → ℕ
action_length version = cond (eqb version 2) 11 10

-- "A sheet begins with a header of eight bytes: the letters FSH, the version in two bytes, n in one, and the count of actions in two.": eight bytes,
-- `header_spelled` (sheet/proofs/Meanings)
abbrev pub header_length : ℕ
header_length = 8

-- "A sheet of version 1 is 8 + 10 x count bytes long", and "An action has ten bytes in version 1. In version 2 it has eleven": so many bytes lie before
-- action k, counted from 0, where an action has so many, and so many has a sheet of k actions: `before_action` (proofs/Laid)
abbrev pub bytes_before : ℕ → ℕ → ℕ
bytes_before each k = header_length + each * k

-- "In every number of two bytes the high byte comes first." "the action in one byte, the number in two, the kind in one, the stage in one,
-- the switch in two, the mask in two, the set in one", and "In version 2 it has eleven, the class at the end". `action_laid` says it place by
-- place (proofs/Laid).
abbrev pub action_bytes : ℕ → ℕ → ℕ → ℕ → ℕ → ℕ → ℕ → ℕ → List ℕ
action_bytes action number kind stage switch mask set class =
    action ∷ number / 256 ∷ number % 256 ∷ kind ∷ stage ∷ switch / 256 ∷ switch % 256 ∷ mask / 256 ∷ mask % 256 ∷ set ∷ class ∷ []

-- "Action 1 is a filing, and its kind is that of the target. In kind 1 the mask is 0. In kind 2 the column stands in the
-- stage's byte, mask and set are 0. In kind 3 the value stands where the switch does." `links_laid`, `switch_laid` and
-- `pattern_laid` say it place by place (proofs/Laid).
abbrev pub filing_of : ℕ → Target → ℕ → List ℕ
filing_of number (Links stage switch set) class = action_bytes 1 number 1 stage switch 0 set class
filing_of number (Switch column switch) class = action_bytes 1 number 2 column switch 0 0 class
filing_of number (Pattern stage value mask set) class = action_bytes 1 number 3 stage value mask set class

-- the action that files a notice: `filings_spelt` has four, byte by byte (proofs/Laid)
abbrev pub filing : Notice → List ℕ
filing x = filing_of x.number x.target x.class
