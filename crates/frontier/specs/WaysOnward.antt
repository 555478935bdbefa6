-- The ways onward out of a column's two switches, as a set. Nobody has to believe it: `ways_are` (proofs/WaysOnward.antt) says that they are those of
-- docs/RULES.md, 'Routes'.
use Rattle.std.specs.Prelude.{◌≡◌, ℕ, ◌<◌, Bool, true, cond, ◌↔◌, ◌==◌, nat_lt}
use Rattle.fabric.specs.Labels.{size}
use Rattle.paths.specs.Clear.{Rule}
use Rattle.paths.specs.Ways.{Way}
use Rattle.frontier.specs.declared.Front.{Front}
use Rattle.frontier.specs.Columns.{straight_at, fork_at}
use Rattle.frontier.specs.Stops.{has, set_of}

-- straight out of the switch whose bit is right, plus and minus out of the other, each where its switch is reached
abbrev pub ways_onward : ℕ → Bool → Front → ℕ
ways_onward n high_right f =
    let stays : Bool = nat_lt (cond high_right f.high f.low) (size n) in
    let forks : Bool = nat_lt (cond high_right f.low f.high) (size n) in
    set_of stays forks forks

-- the switch of stage i whose link of a code lies on ways
abbrev pub way_from : ℕ → ℕ → ℕ → ℕ → ℕ → ℕ
way_from n s d i c = cond (c == 0) (straight_at n s d i) (fork_at n s d i)

-- the set holds the ways onward at stage i
abbrev pub WaysAre : ℕ → Rule → ℕ → ℕ → ℕ → ℕ → Type 0
WaysAre n rule s d i ways = (j c : ℕ) → Way n rule s d i j c ↔ ((c < 3) × (has ways c ≡ true) × (j ≡ way_from n s d i c))
