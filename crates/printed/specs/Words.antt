-- docs/RULES.md, 'What is printed': words and numbers as bytes, in ASCII, and what ends a line.
use Rattle.std.specs.Prelude.{cond, List, [], ◌∷◌, ◌++◌, ℕ, zero, suc, ◌+◌, ◌*◌, ◌/◌, ◌%◌}
use Prim.Native.Char.{code}
use Prim.Native.String.{String, [] as nothing, ◌∷◌ as ◌then◌}
use Rattle.table.specs.Numbers.{number_of}
use Rattle.table.specs.Checks.{◌below◌}
use Rattle.table.specs.declared.Refusal.{Refusal}
use Rattle.fabric.specs.Labels.{bit}

-- a text in quotes, byte by byte. The definitions below give bytes as numbers; the theorems that pin them quote docs/RULES.md by it.
abbrev pub ascii : String → List ℕ
ascii nothing = []
ascii (letter then letters) = code letter ∷ ascii letters

-- a number in decimal without leading zeros, by at most so many digits
unfoldable pub decimal_in : ℕ → ℕ → List ℕ
decimal_in zero x = []
decimal_in (suc most) x = cond (x below 10) ((48 + x) ∷ []) (decimal_in most (x / 10) ++ (48 + x % 10) ∷ [])

-- x has at most x + 1 digits. `decimal_one` and `decimal_more` say that below 10 it is the one digit, and otherwise the digits of a
-- tenth of it and then its last digit; `decimal_reads` that they read as x, `no_leading_zero` that the first of several is not 0,
-- `decimal_digits` that all are digits.
abbrev pub decimal : ℕ → List ℕ
decimal x = decimal_in (suc x) x

-- so many bits of a number, in order, from bit i on
unfoldable pub bits_from : ℕ → ℕ → ℕ → List ℕ
bits_from i zero x = []
bits_from i (suc left) x = (48 + bit i x) ∷ bits_from (suc i) left x

-- "`TAG` and the 2n bits of the tag, bit 0 first": `tag_bits_at` says that there are 2n, and which stands where
abbrev pub tag_bits : ℕ → ℕ → List ℕ
tag_bits n tag = bits_from 0 (2 * n) tag

-- `words_spelled` says that these are the words
abbrev pub SHEET : List ℕ
SHEET = 83 ∷ 72 ∷ 69 ∷ 69 ∷ 84 ∷ []

abbrev pub FILE : List ℕ
FILE = 70 ∷ 73 ∷ 76 ∷ 69 ∷ []

abbrev pub WITHDRAW : List ℕ
WITHDRAW = 87 ∷ 73 ∷ 84 ∷ 72 ∷ 68 ∷ 82 ∷ 65 ∷ 87 ∷ []

abbrev pub ROUTE : List ℕ
ROUTE = 82 ∷ 79 ∷ 85 ∷ 84 ∷ 69 ∷ []

abbrev pub ACTION : List ℕ
ACTION = 65 ∷ 67 ∷ 84 ∷ 73 ∷ 79 ∷ 78 ∷ []

abbrev pub OK : List ℕ
OK = 79 ∷ 75 ∷ []

abbrev pub REFUSED : List ℕ
REFUSED = 82 ∷ 69 ∷ 70 ∷ 85 ∷ 83 ∷ 69 ∷ 68 ∷ []

abbrev pub TAG : List ℕ
TAG = 84 ∷ 65 ∷ 71 ∷ []

abbrev pub NONE : List ℕ
NONE = 78 ∷ 79 ∷ 78 ∷ 69 ∷ []

abbrev pub BY : List ℕ
BY = 66 ∷ 89 ∷ []

-- the rest of a line after its first word: a blank before each word, and "a line feed ends each of them". `line_of_one` and
-- `line_of_more` say what a line is, and `line_feed_last` that it has no other LF.
abbrev pub ending : List (List ℕ) → List ℕ
ending [] = 10 ∷ []
ending (word ∷ words) = 32 ∷ word ++ ending words

abbrev pub line : List ℕ → List (List ℕ) → List ℕ
line word words = word ++ ending words

-- "`REFUSED` and the number of the refusal": `refusal_spelled`
abbrev pub refusal : Refusal → List (List ℕ)
refusal why = REFUSED ∷ decimal (number_of why) ∷ []
