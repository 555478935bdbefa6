-- Which links on ways to a destination are stopped: in a word of sets, and by a rule. Nobody has to believe it.
use Rattle.std.specs.Prelude.{◌≡◌, ℕ, ◌+◌, ◌*◌, ◌/◌, ◌%◌, ◌^◌, ◌<◌, Bool, cond, not, ◌&&◌, ◌||◌, ◌==◌}
use Rattle.fabric.specs.Labels.{bit}
use Rattle.paths.specs.Clear.{Rule}
use Rattle.frontier.specs.declared.links.Stops.{Stops}
use Rattle.frontier.specs.Columns.{straight_at, fork_at}

-- the three links out of a column's two switches that lead toward the destination: straight from the one, plus and minus from the other
pub record StopsAt : Type 0 where
  pub straight : Bool
  pub plus : Bool
  pub minus : Bool

-- a rule's number stops a link where it is not 0
abbrev pub stopping : ℕ → Bool
stopping k = not (k == 0)

-- what a rule stops at stage i, out of the switch that goes straight and the one that forks
abbrev pub stops_from : Rule → ℕ → ℕ → ℕ → StopsAt
stops_from rule i straight fork =
    record { straight = stopping (rule i straight 0); plus = stopping (rule i fork 1); minus = stopping (rule i fork 2) }

-- whether a set has the link of a code
abbrev pub has : ℕ → ℕ → Bool
has set c = bit c set == 1

-- the set of three links: "a sum, of 1 for straight, 2 for plus and 4 for minus"
abbrev pub set_of : Bool → Bool → Bool → ℕ
set_of straight plus minus = cond straight 1 0 + cond plus 2 0 + cond minus 4 0

-- the links of a set
abbrev pub links_of : ℕ → StopsAt
links_of set = record { straight = has set 0; plus = has set 1; minus = has set 2 }

-- the set of stage i in a word of sets, four bits a stage
abbrev pub set_at : ℕ → Stops → ℕ
set_at i w = w.sets / 2 ^ (4 * i) % 16

abbrev pub none_stopped : Stops
none_stopped = record { sets = 0 }

-- the word holds what a rule stops on ways from s to d
abbrev pub StopsUnder : ℕ → Rule → ℕ → ℕ → Stops → Type 0
StopsUnder n rule s d w = (i : ℕ) → i < n → links_of (set_at i w) ≡ stops_from rule i (straight_at n s d i) (fork_at n s d i)

-- the word with the links of a set more at stage k
abbrev pub SetMore : ℕ → ℕ → Stops → Stops → Type 0
SetMore k set old new = (i c : ℕ) → c < 3 → has (set_at i new) c ≡ (has (set_at i old) c || (i == k && has set c))

-- whether two sets have a link in common
abbrev pub share : ℕ → ℕ → Bool
share a b = (has a 0 && has b 0) || ((has a 1 && has b 1) || (has a 2 && has b 2))
