-- What a pass over the notices of a book holds on its way. Not a rule of docs/RULES.md: the functions of this crate speak to each other with it, and
-- `held_more` (proofs/Judging.antt) says that it is the lowest number found so far.
use Rattle.std.specs.Prelude.{Bool, false, cond, List, ℕ, Option, Some, min, find, option_map, unwrap_or}
use Rattle.table.specs.Checks.{◌not_below◌}
use Rattle.notices.specs.declared.Notice.{Notice}

-- the lower of the number found so far, if there is one, and the next: `lower_exactly` (proofs/Lower.antt)
abbrev pub lower : Option ℕ → ℕ → ℕ
lower found number = unwrap_or (option_map (λ k. min k number) found) number

-- what is held once a notice of that number has been tested, which names the link or not
abbrev pub held : Bool → Option ℕ → ℕ → Option ℕ
held named found number = cond named (Some (lower found number)) found

-- the number of the first notice of a list that a test picks: `first_is_lowest` (proofs/Lower.antt)
abbrev pub first_number : (Notice → Bool) → List Notice → Option ℕ
first_number test l = option_map (λ x. x.number) (find test l)

-- whether a number is out of order before that of the next notice, if there is one
abbrev pub out_of_order : ℕ → Option ℕ → Bool
out_of_order number next = unwrap_or (option_map (λ k. number not_below k) next) false
