-- What crossing hands a router. Nobody has to believe it: `stuck_number` (proofs/Least.antt) and the routers' own proofs lead from it to `Routed`.
use Rattle.std.specs.Prelude.{List, ℕ, ◌<◌, Result, Ok, Err}
use Rattle.paths.specs.Clear.{Rule, ClearPath, StageNamed}
use Rattle.paths.specs.Ways.{Way}
use Rattle.frontier.specs.WaysOnward.{WaysAre}
use Rattle.routes.specs.Routed.{Routed}
use Rattle.crossing.specs.declared.Stuck.{Stuck}

-- no path is clear, stage i is the one named, and these are the ways onward there, of which there is one at least
pub record StuckAt (n : ℕ) (rule : Rule) (s d i ways : ℕ) : Type 0 where
  pub inside : i < n
  pub none : (cs : List ℕ) → ClearPath n rule s d cs → ⊥
  pub named : StageNamed n rule s d i
  pub onward : WaysAre n rule s d i ways
  pub some : (j : ℕ) × (c : ℕ) × Way n rule s d i j c

abbrev pub CrossedBy : ℕ → Rule → ℕ → ℕ → Result ℕ Stuck → Type 0
CrossedBy n rule s d (Ok t) = Routed n rule s d (Ok t)
CrossedBy n rule s d (Err stuck) = StuckAt n rule s d stuck.stage stuck.ways
