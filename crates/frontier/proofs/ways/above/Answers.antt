-- The sum wraps at 65,536, and N divides 65,536.
use Rattle.std.proofs.Common.{ℕ, ◌+◌, ◌%◌, ◌^◌, ◌≤◌, ap, ◌∙◌, arith}
use Rattle.fabric.proofs.Bits.{low_of_low}
use Rattle.frontier.proofs.ways.above.Goals as goal

pub returns : goal.returns
returns c =
    let a = c.args in
    let few : a.fabric.n ≤ 12 = a.fabric.few in
    let step = c.stride in
    ap (λ (q : ℕ). (a.source + a.distance % step.result) % 65536 % q) c.size.ensures
    ∙ low_of_low a.fabric.n 16 (a.source + a.distance % step.result) (omega arith)
    ∙ ap (λ (p : ℕ). (a.source + a.distance % p) % 2 ^ a.fabric.n) step.ensures
