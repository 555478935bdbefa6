-- docs/RULES.md, 'What is printed': "a line feed ends each of them".
use Rattle.sheet.specs.Format.{HeaderRead}
use Rattle.std.specs.Prelude.{cond, List, [], ◌∷◌, ℕ, suc, ◌+◌, eqb, Ok, Err}

-- how many lines end in a text. `text_lines` says that a text has as many as its header says, and `cut_is_seen` that one that is cut short
-- has fewer.
abbrev pub line_ends : List ℕ → ℕ
line_ends [] = 0
line_ends (x ∷ text) = cond (eqb x 10) 1 0 + line_ends text

-- the first line, and one for each action; or only the one
abbrev pub lines_of : HeaderRead → ℕ
lines_of (Ok head) = suc head.count
lines_of (Err why) = 1
