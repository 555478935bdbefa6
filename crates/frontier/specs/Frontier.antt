-- The router's own bookkeeping, stage by stage. Nobody has to believe it: `advanced_holds`, `onward_best` and `found_first` tie it to
-- the definitions of clear paths (proofs/Frontier.antt).
use Rattle.std.specs.Prelude.{ℕ, zero, suc, ◌+◌, ◌-◌, ◌*◌, ◌^◌, ◌≤◌, Bool, cond, nat_le}
use Rattle.fabric.specs.Labels.{size, bit}
use Rattle.frontier.specs.declared.Front.{Front}
use Rattle.frontier.specs.Stops.{StopsAt}

-- in column 0 the source alone is reached
abbrev pub start : ℕ → Front
start n = record { high = 0; low = size n }

-- where a link is stopped, no walk is left
abbrev pub lost_by : ℕ → Bool → ℕ
lost_by n stopped = cond stopped (size n) 0

-- a walk with one link more, stopped or not, taken in a state
unfoldable pub through : ℕ → ℕ → Bool → ℕ → ℕ
through n p stopped state = p * 2 + state + lost_by n stopped

-- of two ways to one switch, the one that comes first
unfoldable pub lesser : ℕ → ℕ → ℕ
lesser p q = cond (nat_le p q) p q

-- one stage on: the switch whose bit is right goes straight, the other one forks, plus up and minus down
unfoldable pub advanced : ℕ → Bool → ℕ → StopsAt → Front → Front
advanced n high_right t x f =
    let straight : ℕ = through n (cond high_right f.high f.low) x.straight 0 in
    let up : ℕ = through n (cond high_right f.low f.high) x.plus (1 - t) in
    let down : ℕ = through n (cond high_right f.low f.high) x.minus t in
    let met : ℕ = lesser straight (cond high_right up down) in
    record { high = cond high_right met up; low = cond high_right down met }

-- a number's low bits in the other order
unfoldable pub mirrored : ℕ → ℕ → ℕ
mirrored zero k = 0
mirrored (suc i) k = mirrored i k * 2 + bit i k

-- what i stages leave of a number, walk or none, so that it fits 32 bits after 12
abbrev pub Small : ℕ → ℕ → Type 0
Small i p = p + 8192 ≤ 2 ^ (i + 14)
