-- Demand 2's 'stopped by a counted notice' is demand 3's: the links that the counted notices of a run stop, said of a walk and of the ways onward.
use Rattle.std.specs.Prelude.{◌≡◌, true, List, ℕ, ◌<◌, length, get_or}
use Rattle.fabric.specs.Walks.{switch_at}
use Rattle.paths.specs.Ways.{WayBy}
use Rattle.notices.specs.declared.Notice.{Notice}
use Rattle.notices.specs.Notices.{names}
use Rattle.notices.specs.Classes.{counts}
use Rattle.book.specs.Entries.{opened}
use Rattle.changes.specs.Runs.{Change, StandsSince}

-- a notice that was accepted in a run and not withdrawn since, and that a route of this choice counts
abbrev pub CountsSince : ℕ → ℕ → List Change → Notice → Type 0
CountsSince n choice changes x = StandsSince (opened n) changes x × (counts choice x ≡ true)

-- no link of a walk from s is named by such a notice
abbrev pub UnnamedSince : ℕ → ℕ → List Change → ℕ → List ℕ → Type 0
UnnamedSince n choice changes s cs =
    (k : ℕ) → k < length cs → (x : Notice) → CountsSince n choice changes x → names n x k (switch_at n s cs k) (get_or cs k 0) ≡ true → ⊥

-- docs/RULES.md, 'What the user demands': "Demand 3 holds of the numbers of notices in the answers as well", and "Demand 3 is kept under each choice of a
-- route": such a notice stops a way onward at stage i, from a switch that a walk reaches of which no such notice names a link. `route_number_since`
-- (proofs/Numbers.antt) says that a route names the lowest number of one.
abbrev pub StopsAWaySince : ℕ → ℕ → List Change → ℕ → ℕ → ℕ → Notice → Type 0
StopsAWaySince n choice changes s d i x =
    CountsSince n choice changes x × ((j : ℕ) × (c : ℕ) × WayBy (UnnamedSince n choice changes s) n s d i j c × (names n x i j c ≡ true))
