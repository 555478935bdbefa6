-- docs/RULES.md, 'Tags and steps', the two-bit scheme: which link a switch uses. The theorems named here stand in
-- proofs/Table.antt.
use Rattle.std.specs.Prelude.{ℕ, zero, suc}

-- The table of links: bit i of switch j, destination bit t, state. `table_in_rows` is the table from top to bottom; `link_straight`,
-- `link_plus` and `link_minus` say it in words.
abbrev pub link : ℕ → ℕ → ℕ → ℕ
link zero zero state = 0
link zero (suc t) zero = 1
link zero (suc t) (suc state) = 2
link (suc b) (suc t) state = 0
link (suc b) zero zero = 2
link (suc b) zero (suc state) = 1

-- the table read the other way: the state for which a switch with this bit uses the link of this code, "and state 0 at each straight
-- step". `states_in_rows` lists it; `state_for_link` and `link_state_for` say that it is the table's inverse.
abbrev pub state_for : ℕ → ℕ → ℕ
state_for b zero = 0
state_for zero (suc zero) = 0
state_for zero (suc (suc c)) = 1
state_for (suc b) (suc zero) = 1
state_for (suc b) (suc (suc c)) = 0
