use mathlib.Core.Path.{sym, ap₂, ◌∙◌}
use mathlib.Core.Bool.{Bool, ◌&&◌}
use Rattle.router.proofs.Naming.{shared_stops}
use Rattle.router.proofs.stops_onward.Goals as goal

pub returns-then-counts : goal.returns-then-counts
returns-then-counts c =
    let a = c.args in
    let onward = c.in_common.ensures ∙ shared_stops a.fabric.n a.columns.now a.stuck.stage a.stuck.ways _ a.x c.at.ensures c.named_at-named.ensures in
    ap₂ (λ (x y : Bool). x && y) (sym c.if-counts.true ∙ c.counts.ensures) onward
