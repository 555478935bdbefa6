-- Where a number has its place among standing notices. No rule of docs/RULES.md: only the functions that keep notices in places
-- speak of it to each other.
use Rattle.std.specs.Prelude.{List, ℕ, leb}
use Rattle.std.specs.List.{position_or_len}
use Rattle.notices.specs.declared.Notice.{Notice}

-- How many notices are passed before the first whose number is k or more. The laws that tie it to `insert`, `without` and `stands`
-- are in proofs/Placing.
abbrev pub place_of : ℕ → List Notice → ℕ
place_of k l = position_or_len (λ x. leb k x.number) l
