-- docs/RULES.md, 'The sheet' and 'Classes': the bytes of a sheet's header. Where its actions lie is `bytes_before` of the actions.
use Rattle.std.specs.Prelude.{List, [], ◌∷◌, ℕ, ◌/◌, ◌%◌, get_or, Result, Ok}
use Rattle.table.specs.declared.Refusal.{Refusal}
use Rattle.sheet.specs.declared.Header.{Header}
use Rattle.actions.specs.Format.{word}
use Rattle.actions.specs.Layout.{action_length}

-- "A sheet begins with a header of eight bytes: the letters FSH, the version in two bytes, n in one, and the count of actions in two.", and "In version 2 it
-- has eleven": `header_spelled`, `header_bytes_length`
abbrev pub header_bytes : ℕ → ℕ → ℕ → List ℕ
header_bytes version n count = 70 ∷ 83 ∷ 72 ∷ version / 256 ∷ version % 256 ∷ n ∷ count / 256 ∷ count % 256 ∷ []

-- where a reader finds the version, n and the count: `header_read` and `header_written` say that they are those of `header_bytes`
abbrev pub version_in : List ℕ → ℕ
version_in sheet = word sheet 3

abbrev pub size_in : List ℕ → ℕ
size_in sheet = get_or sheet 5 0

abbrev pub count_in : List ℕ → ℕ
count_in sheet = word sheet 6

-- how many bytes each action has: the version says it of all of them, `part_is_each`
abbrev pub each_in : List ℕ → ℕ
each_in sheet = action_length (version_in sheet)

-- what the sheet header answers, and what it answers where it accepts
abbrev pub HeaderRead : Type 0
HeaderRead = Result Header Refusal

abbrev pub headed : ℕ → ℕ → ℕ → HeaderRead
headed n count version = Ok (record { n = n; count = count; version = version })
