-- docs/RULES.md, 'Fabric': what is made of a number of stages. Outside 1 to 12 it is refused with 1, whatever else.
use Rattle.std.specs.Prelude.{◌≡◌, ℕ, ◌≤◌, true, false, Result, MatchResult}
use Rattle.table.specs.declared.Refusal.{Refusal}
use Rattle.fabric.specs.declared.Fabric.{Fabric}
use Rattle.fabric.specs.Labels.{outside_sizes}

abbrev pub Sizes : ℕ → Result Fabric Refusal → Type 0
Sizes n r = MatchResult r (λ fabric. (fabric.n ≡ n) × (1 ≤ n) × (outside_sizes n ≡ false)) (λ why. (why ≡ Refusal.Size) × (outside_sizes n ≡ true))
