-- The columns before column i are filled.
use Rattle.std.proofs.Common.{◌≡◌, ℕ, ◌<◌, ◌≤◌, get_or, length}
use Rattle.frontier.specs.Columns.{straight_at, fork_at}
use Rattle.frontier.proofs.ways.Columns.between.Given as goal

abbrev pub invariant-loop-i : goal.invariant-loop-i
invariant-loop-i l = record {
  straights : length l.straight ≡ 13;
  forks : length l.fork ≡ 13;
  straight : (k : ℕ) → k < l.i → k ≤ l.fabric.n → get_or l.straight k 0 ≡ straight_at l.fabric.n l.source l.destination k;
  fork : (k : ℕ) → k < l.i → k ≤ l.fabric.n → get_or l.fork k 0 ≡ fork_at l.fabric.n l.source l.destination k;
}
