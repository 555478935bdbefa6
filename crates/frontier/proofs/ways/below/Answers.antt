-- The difference wraps at 65,536, and N divides 65,536.
use Rattle.std.proofs.Common.{◌^◌, ◌≤◌, arith, pow_mono}
use Rattle.fabric.proofs.Wrapping.{minus_wraps}
use Rattle.frontier.proofs.ways.below.Goals as goal

pub returns : goal.returns
returns c = λ within.
    let a = c.args in
    let h : 2 ^ a.i ≤ 2 ^ 12 = pow_mono c.requires in
    let few : a.fabric.n ≤ 12 = a.fabric.few in
    let e = c.stride.ensures in
    minus_wraps a.fabric.n a.i a.high _ _ _ (omega arith) within c.stride.ensures c.size.ensures (omega arith)
