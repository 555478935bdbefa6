use Rattle.std.proofs.Common.{rules, ◌≡◌, ℕ, ◌≤◌}
use Rattle.fabric.proofs.Wrapping.{minus_lands_within}
use Rattle.fabric.proofs.Fabric.landing.Goals as goal

pub returns-in_default : goal.returns-in_default
returns-in_default c =
    let few : c.args.self.n ≤ 12 = c.args.self.few in
    search (rules, minus_lands_within)
