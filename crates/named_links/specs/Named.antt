-- What a router that goes through notices says of them: the links on ways that a notice names. Nobody has to believe it; `Routes` is what it leads
-- to.
use Rattle.std.specs.Prelude.{◌≡◌, Bool, cond, ◌&&◌, ◌||◌, ◌⊎◌, ℕ, ◌+◌, ◌<◌, eqb}
use Rattle.fabric.specs.Labels.{size}
use Rattle.fabric.specs.Links.{lands}
use Rattle.frontier.specs.declared.links.Stops.{Stops}
use Rattle.frontier.specs.declared.ways.Column.{Column}
use Rattle.frontier.specs.declared.ways.Columns.{Columns}
use Rattle.frontier.specs.Columns.{column_at}
use Rattle.frontier.specs.Stops.{has, set_at}
use Rattle.notices.specs.declared.Target.{Target}
use Rattle.notices.specs.Targets.{set_has, target_names}

-- a set of a stage's three links, by what each is in it for
abbrev pub SetWhere : (ℕ → Bool) → ℕ → Type 0
SetWhere test set = (set < 8) × ((c : ℕ) → c < 3 → has set c ≡ test c)

-- of a column's two switches the one whose link of a code lies on ways: straight from the one, plus and minus from the one that forks
abbrev pub of_two : Column → ℕ → ℕ
of_two switches c = cond (eqb c 0) switches.straight switches.fork

-- and of the two of column i
abbrev pub out_of : Columns → ℕ → ℕ → ℕ
out_of columns i c = of_two (column_at columns i) c

-- the switches that fork are labels, and each link on ways leads to one of the next column's two switches
pub record Ways (n : ℕ) (columns : Columns) : Type 0 where
  pub label : (i : ℕ) → i < n → (column_at columns i).fork < size n
  pub ends : (i c : ℕ) → i < n → c < 3
      → let end : ℕ = lands n i c (out_of columns i c) in (end ≡ (column_at columns (i + 1)).straight) ⊎ (end ≡ (column_at columns (i + 1)).fork)

-- what is stopped, with the links more that a target names
pub record WithTarget (n : ℕ) (columns : Columns) (t : Target) (old new : Stops) : Type 0 where
  pub at : (i c : ℕ) → i < n → c < 3 → has (set_at i new) c ≡ (has (set_at i old) c || target_names n t i (out_of columns i c) c)

-- with the links of a set more at stage k, of the switch that goes straight, and of the one that forks
abbrev pub WithSet : ℕ → Bool → Bool → ℕ → Stops → Stops → Type 0
WithSet k straight fork set old new =
    (i c : ℕ) → c < 3 → has (set_at i new) c ≡ (has (set_at i old) c || (eqb i k && (cond (eqb c 0) straight fork && set_has set c)))

-- with the links of stage k more that lead to a switch
abbrev pub WithInputs : ℕ → Columns → ℕ → ℕ → Stops → Stops → Type 0
WithInputs n columns k switch old new =
    (i c : ℕ) → c < 3 → has (set_at i new) c ≡ (has (set_at i old) c || (eqb i k && eqb (lands n k c (out_of columns k c)) switch))
