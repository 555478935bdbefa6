-- The frontier holds the first clear walks to its two switches, for whatever rule stops those links, and one of the two is
-- reached.
use mathlib.Core.Path.{◌≡◌}
use Prim.Native.Nat.{ℕ, ◌*◌, ◌/◌, ◌^◌, ◌<◌}
use Rattle.fabric.specs.Labels.{size}
use Rattle.paths.specs.Clear.{Rule}
use Rattle.frontier.proofs.Frontier.{Holds}
use Rattle.frontier.specs.declared.Front.{Front}
use Rattle.frontier.specs.declared.links.Stops.{Stops}
use Rattle.frontier.specs.Stops.{StopsUnder}
use Rattle.frontier.specs.Frontier.{Small, lesser}
use Rattle.crossing.proofs.cross.Given as goal

-- the frontier in column i, and the sets of the stages from there on
pub record InColumn (n s d : ℕ) (stops : Stops) (i : ℕ) (front : Front) (sets : ℕ) : Type 0 where
  pub onward : sets ≡ stops.sets / 2 ^ (4 * i)
  pub high_fits : Small i front.high
  pub low_fits : Small i front.low
  pub reached : lesser front.high front.low < size n
  pub holds : (rule : Rule) → StopsUnder n rule s d stops → Holds n rule s d i front

abbrev pub invariant-loop-i : goal.invariant-loop-i
invariant-loop-i l = InColumn l.fabric.n l.source l.destination (record { sets = l.initial.sets }) l.i l.front l.sets
