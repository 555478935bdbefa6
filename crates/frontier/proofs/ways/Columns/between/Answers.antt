use Rattle.std.proofs.Common.{◌≡◌, ◌≤◌, refl, ◌∙◌, arith, length-set}
use Rattle.frontier.specs.Columns.{straight_at, fork_at}
use Rattle.frontier.proofs.Filled.{filled_more}
use Rattle.frontier.proofs.ways.Columns.between.Goals as goal

pub loop-i-init : goal.loop-i-init
loop-i-init c = record { straights = refl; forks = refl; straight = λ k h. absurd (omega arith); fork = λ k h. absurd (omega arith) }

pub loop-i-preserved : goal.loop-i-preserved
loop-i-preserved c =
    let a = c.args in
    let v = c.loop-i in
    let straights = v.invariant.straights in
    let forks = v.invariant.forks in
    record {
      straights = length-set v.straight v.i _ ∙ v.invariant.straights;
      forks = length-set v.fork v.i _ ∙ v.invariant.forks;
      straight = filled_more (λ k x. k ≤ a.fabric.n → x ≡ straight_at a.fabric.n a.source a.destination k) 0 v.straight v.i _ (omega arith) v.invariant.straight (λ h. (c.between-column.ensures h).straight);
      fork = filled_more (λ k x. k ≤ a.fabric.n → x ≡ fork_at a.fabric.n a.source a.destination k) 0 v.fork v.i _ (omega arith) v.invariant.fork (λ h. (c.between-column.ensures h).fork);
    }

pub returns : goal.returns
returns c = record { at = λ i h. record { straight = c.loop-i.invariant.straight i (omega arith) h; fork = c.loop-i.invariant.fork i (omega arith) h } }
