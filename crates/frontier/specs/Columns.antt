-- The two switches of a column that lie on ways from s to d. Nobody has to believe it: proofs/Sides.antt says that every clear walk toward d
-- arrives at one of them.
use Rattle.std.specs.Prelude.{◌≡◌, ℕ, zero, suc, ◌+◌, ◌%◌, ◌≤◌, Bool, cond, ◌==◌, get_or}
use Rattle.fabric.specs.Labels.{bit}
use Rattle.fabric.specs.Links.{lands}
use Rattle.frontier.specs.declared.ways.Column.{Column}
use Rattle.frontier.specs.declared.ways.Columns.{Columns}

-- how far d lies above s, modulo 65,536
abbrev pub Distance : ℕ → ℕ → ℕ → Type 0
Distance s d far = (far + s) % 65536 ≡ d

-- the high switch of a column: from the source on, straight where its bit is right, and plus where it is not
unfoldable pub high : ℕ → ℕ → ℕ → ℕ → ℕ
high n s d zero = s
high n s d (suc i) = lands n i (cond (bit i (high n s d i) == bit i d) 0 1) (high n s d i)

-- the low switch, 2^i below
abbrev pub low : ℕ → ℕ → ℕ → ℕ → ℕ
low n s d i = lands n i 2 (high n s d i)

-- whether the high switch's bit is right
abbrev pub high_right : ℕ → ℕ → ℕ → ℕ → Bool
high_right n s d i = bit i (high n s d i) == bit i d

-- the switch whose bit is right, which goes straight, and the other one, which forks
abbrev pub straight_at : ℕ → ℕ → ℕ → ℕ → ℕ
straight_at n s d i = cond (high_right n s d i) (high n s d i) (low n s d i)

abbrev pub fork_at : ℕ → ℕ → ℕ → ℕ → ℕ
fork_at n s d i = cond (high_right n s d i) (low n s d i) (high n s d i)

-- of column i, the switch that goes straight and the one that forks
pub record IsColumn (n s d i : ℕ) (c : Column) : Type 0 where
  pub straight : c.straight ≡ straight_at n s d i
  pub fork : c.fork ≡ fork_at n s d i

-- column i of the thirteen; from 13 on there is none, and both are 0
abbrev pub column_at : Columns → ℕ → Column
column_at w i = record { straight = get_or w.straight i 0; fork = get_or w.fork i 0 }

-- what the columns hold, from column 0 to the last
pub record ColumnsOf (n s d : ℕ) (w : Columns) : Type 0 where
  pub at : (i : ℕ) → i ≤ n → IsColumn n s d i (column_at w i)
