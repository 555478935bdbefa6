-- Of one stage's three links on ways, those that a target names, as a set.
use mathlib.Core.Path.{◌≡◌, ap, ◌∙◌}
use mathlib.Core.Bool.{Bool, cond, ◌&&◌}
use Prim.Native.Nat.{ℕ, ◌<◌}
use native.Mathlib.Omega.{arith}
use lib.Dec.{eqb}
use lib.Bits.{bit_and, and_le_l}
use Rattle.fabric.specs.Links.{lands}
use Rattle.frontier.specs.declared.ways.Column.{Column}
use Rattle.frontier.specs.Stops.{has, set_of}
use Rattle.frontier.proofs.Sets.{has_and, set_of_has}
use Rattle.notices.specs.Targets.{set_has}
use Rattle.named_links.specs.Named.{SetWhere, of_two}

-- each link is in the set where its switch is meant and the set has it
pub meant_where : (straight fork : Bool) (set : ℕ) {x : ℕ} → (x ≡ set_of straight fork fork) × (x < 8)
    → SetWhere (λ c. cond (eqb c 0) straight fork && set_has set c) (bit_and x set)
meant_where straight fork set {x} made =
    let less = and_le_l x set in
    let small = made.1 in
    let meant : ℕ → Bool = λ k. cond (eqb k 0) straight fork in (
      omega arith,
      λ c h. has_and c x set ∙ ap (λ (b : Bool). b && has set c) (ap (λ (y : ℕ). has y c) made.0 ∙ set_of_has meant c h),
    )

-- each link is in the set where it lands on the switch
pub inputs_where : (n i : ℕ) (switches : Column) (switch : ℕ) {plus minus x : ℕ} → plus ≡ lands n i 1 switches.fork → minus ≡ lands n i 2 switches.fork
    → (x ≡ set_of (eqb switches.straight switch) (eqb plus switch) (eqb minus switch)) × (x < 8) → SetWhere (λ c. eqb (lands n i c (of_two switches c)) switch) x
inputs_where n i switches switch ep em made =
    let leads : ℕ → Bool = λ k. eqb (lands n i k (of_two switches k)) switch in
    (made.1, λ c h. ap (λ (y : ℕ). has y c) (made.0 ∙ rw (ep, em)) ∙ set_of_has leads c h)
