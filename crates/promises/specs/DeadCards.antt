-- docs/RULES.md, 'Notices': "In column 0, where no link ends, it names the three links of stage 0 that leave the switch." What holds of its switch from now
-- on, after any run of filings and withdrawals. The theorems named here stand in proofs/DeadCards.antt.
use Rattle.routes.specs.declared.NoRoute.{NoRoute}
use Rattle.walks.specs.declared.NotClear.{NotClear}
use Rattle.std.specs.Prelude.{◌≡◌, true, List, ℕ, ◌<◌, get_or, Err}
use Rattle.fabric.specs.Labels.{size, Agree}
use Rattle.fabric.specs.Links.{Code, lands}
use Rattle.scheme.specs.Tags.{tags, steps_of}
use Rattle.notices.specs.declared.Notice.{Notice}
use Rattle.notices.specs.Notices.{names}
use Rattle.standing.specs.Picked.{LowestNumber}
use Rattle.book.specs.Entries.{opened}
use Rattle.changes.specs.Runs.{Change, run, NamesSince}
use Rattle.promises.specs.Clearness.{CountsSince}
use Rattle.routes.specs.Routed.{Routes, Found}
use Rattle.walks.specs.Entries.{Ended, Walks}

-- a counted notice that was accepted and not withdrawn since stops a link that leaves s at stage 0 toward d. These are the notices that stop a way onward
-- there: `ways_out`.
abbrev pub StopsAWayOut : ℕ → ℕ → List Change → ℕ → ℕ → Notice → Type 0
StopsAWayOut n choice changes s d x = CountsSince n choice changes x × ((c : ℕ) × Code c × Agree 1 (lands n 0 c s) d × (names n x 0 s c ≡ true))

-- no route of this choice leaves s: to every destination 11 with stage 0, and with it the lowest number of a counted notice that stops a way out. `dead_card` says
-- it of a switch that a counted notice of column 0 names, a broken one with either choice, `card_named` of one of them with its number.
abbrev pub NoRouteLeaves : ℕ → ℕ → List Change → ℕ → Type 0
NoRouteLeaves n choice changes s =
    (d : ℕ) → d < size n → (k : ℕ) × Routes (run changes (opened n)) s d choice (Err (NoRoute.NoClearPath 0 k)) × LowestNumber (StopsAWayOut n choice changes s d) k

-- and no walk: every tag's is stopped at stage 0, by the lowest number that names its first link: `dead_card_walked`, `card_walked`
abbrev pub NoWalkLeaves : ℕ → List Change → ℕ → Type 0
NoWalkLeaves n changes s =
    (tag : ℕ) → tag < tags n
    → (k : ℕ) × Walks (run changes (opened n)) s tag (Err (NotClear.Stopped 0 k)) × LowestNumber (NamesSince n changes 0 s (get_or (steps_of n s tag) 0 0)) k
