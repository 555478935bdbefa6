-- docs/RULES.md, 'Entries' and 'Classes': sheet header, whether action k is there, and its part.
use Rattle.std.specs.Prelude.{◌≡◌, Bool, not, ◌||◌, List, [], ◌∷◌, ◌++◌, ℕ, eqb, length, take, drop, get_or}
use Rattle.table.specs.Reply.{Reply, refused, says, answer_says, Answer}
use Rattle.table.specs.Checks.{Check, checked, ◌when◌, ◌below◌, ◌not_below◌}
use Rattle.fabric.specs.Labels.{outside_sizes}
use Rattle.actions.specs.Layout.{header_length, bytes_before}
use Rattle.sheet.specs.Format.{version_in, size_in, count_in, each_in, HeaderRead}

-- the number and values of each answer: `header_exactly`, `header_numbered`
abbrev pub header_says : HeaderRead → Reply
header_says = says (λ head. head.n ∷ head.count ∷ head.version ∷ [])

-- "Sheets of version 1 are still run", beside version 2: `versions_pass`
abbrev pub wrong_version : ℕ → Bool
wrong_version version = not (eqb version 1 || eqb version 2)

-- 14: "a sheet of fewer than eight bytes, or with another mark or version": `fourteen_exactly` says that it is where no header stands at the front
abbrev pub wrong_mark : List ℕ → Bool
wrong_mark sheet =
    length sheet below header_length
    || not (eqb (get_or sheet 0 0) 70)
    || not (eqb (get_or sheet 1 0) 83)
    || not (eqb (get_or sheet 2 0) 72)
    || wrong_version (version_in sheet)

-- 15: "a count of more than 4,096 actions, or another length than the count asks for": `fifteen_exactly`
abbrev pub wrong_length : List ℕ → Bool
wrong_length sheet = 4096 below count_in sheet || not (eqb (length sheet) (bytes_before (each_in sheet) (count_in sheet)))

-- "Header (sheet): 14, 1, 15. Past these it answers n, the count and the version.": `header_order`, `one_exactly`, `header_exactly`
abbrev pub header_checks : List ℕ → List Check
header_checks sheet =
    (14 when wrong_mark sheet) ∷ (1 when outside_sizes (size_in sheet)) ∷ (15 when wrong_length sheet) ∷ []

pub record ReadsHeader (sheet : List ℕ) (answer : HeaderRead) : Type 0 where
  pub says : header_says answer ≡ checked (header_checks sheet) refused (Reply.accepted (size_in sheet ∷ count_in sheet ∷ version_in sheet ∷ []))

-- "Is action k there (sheet, k), k from 0 on: the header's number where that is refused, then 13 where the count is k or
-- less.": `there_order`, `there_exactly`
abbrev pub there_checks : List ℕ → ℕ → List Check
there_checks sheet k = header_checks sheet ++ (13 when k not_below count_in sheet) ∷ []

pub record HasAction (sheet : List ℕ) (k : ℕ) (answer : Answer) : Type 0 where
  pub says : answer_says answer ≡ checked (there_checks sheet k) refused (Reply.accepted [])

-- "Part of action k (sheet, k): where the entry before accepts, a part of the caller's own sheet, the ten or eleven bytes of the action; where it
-- refuses, the empty part at the front of the sheet.", and "An action has ten bytes in version 1. In version 2 it has eleven": where in the sheet the
-- part starts, and its bytes: `part_bytes`, `part_is_each`, `part_empty`
abbrev pub start_of : List ℕ → ℕ → ℕ
start_of sheet k = checked (there_checks sheet k) (λ j. 0) (bytes_before (each_in sheet) k)

abbrev pub part_of : List ℕ → ℕ → List ℕ
part_of sheet k = checked (there_checks sheet k) (λ j. []) (take (each_in sheet) (drop (bytes_before (each_in sheet) k) sheet))
