-- The stage that is named where no path is clear: the first stage that clear walks toward d reach and do not cross.
use mathlib.Core.Path.{◌≡◌}
use mathlib.Core.List.{List}
use Prim.Native.Nat.{ℕ, suc, ◌≤◌, ◌<◌}
use native.Mathlib.Decide.{dec_le}
use native.Mathlib.Omega.{arith}
use lib.ListN.{take}
use Rattle.paths.specs.Clear.{Rule, ClearPath, Onward, NoneCross, StageNamed}
use Rattle.paths.proofs.Walks.{shorter, path_onward}

module _ (n : ℕ) (stops : Rule) (s d : ℕ) where
  -- a stage is named once
  pub stage_once : (i j : ℕ) → StageNamed n stops s d i → StageNamed n stops s d j → i ≡ j
  stage_once i j p q = let a = p.least j q.none in let b = q.least i p.none in omega arith

  -- a stage that is reached and not crossed is the one that is named
  pub stage_named : (i : ℕ) → i < n → (cs : List ℕ) → Onward n stops s d i cs → ((ds : List ℕ) → Onward n stops s d (suc i) ds → ⊥) → StageNamed n stops s d i
  stage_named i h cs w empty =
      record { none = empty; least = λ k none. go k none (dec_le i k) }
    where
      go : (k : ℕ) → NoneCross n stops s d k → Dec (i ≤ k) → i ≤ k
      go k none (yes l) = l
      go k none (no l) = absurd (none (take (suc k) cs) (shorter n stops s d i (suc k) cs (omega arith) (omega arith) w))

  -- where a stage is not crossed no path is clear
  pub none_clear : (i : ℕ) → i < n → NoneCross n stops s d i → (cs : List ℕ) → ClearPath n stops s d cs → ⊥
  none_clear i h none cs p = none (take (suc i) cs) (shorter n stops s d n (suc i) cs (omega arith) h (path_onward n stops s d cs p))
