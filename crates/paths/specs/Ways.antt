-- docs/RULES.md, 'Routes': the ways onward at a stage, and the number that is named where none of them is clear. The theorems named here
-- stand in proofs/Ways.antt.
use Rattle.std.specs.Prelude.{◌≡◌, List, ℕ, suc, ◌≤◌, length}
use Rattle.fabric.specs.Labels.{Agree}
use Rattle.fabric.specs.Links.{Code, lands}
use Rattle.fabric.specs.Walks.{Codes, walked}
use Rattle.paths.specs.Clear.{Rule, Clear}

-- "it leaves a switch at which a clear walk has arrived, and it leads toward the destination": the link of code c that leaves switch j at stage i, where a
-- clear walk of i links from s reaches j, and the link's far end agrees with d in its low i+1 bits. What makes a walk clear is left open: below it is a
-- rule, and of a run of filings and withdrawals the notices that stand (`StopsAWaySince`, promises/specs/Clearness.antt).
pub record WayBy (clear : List ℕ → Type 0) (n s d i j c : ℕ) : Type 0 where
  pub walk : List ℕ
  pub links : length walk ≡ i
  pub codes : Codes walk
  pub is_clear : clear walk
  pub reaches : walked n 0 s walk ≡ j
  pub code : Code c
  pub toward : Agree (suc i) (lands n i c j) d

-- By a rule. The switch is reached by a clear walk toward d, and every link on is a way: `way_onward`, `onward_way`. There is one wherever such a walk
-- arrives: `some_way`; it is the straight link, or both arms of a fork, at stage n-1 too: `straight_alone`, `both_arms`. Where no clear walk
-- crosses the stage every way is stopped: `way_stopped`.
abbrev pub Way : ℕ → Rule → ℕ → ℕ → ℕ → ℕ → ℕ → Type 0
Way n stops s d i j c = WayBy (Clear n stops s) n s d i j c

-- "the lowest of a notice that counts and stops a way onward": `number_by_walks` says it over all walks of i+1 links toward d of which all but
-- the last link are clear, `number_once` that there is at most one
pub record NumberNamed (n : ℕ) (stops : Rule) (s d i k : ℕ) : Type 0 where
  pub switch : ℕ
  pub code : ℕ
  pub way : Way n stops s d i switch code
  pub stopped : stops i switch code ≡ k
  pub some : 1 ≤ k
  pub least : (j c : ℕ) → Way n stops s d i j c → 1 ≤ stops i j c → k ≤ stops i j c
