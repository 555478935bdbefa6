use native.Mathlib.Omega.{arith}
use Rattle.pairs.proofs.Promises.{none_answered, one_more}
use Rattle.many_routes.proofs.answer.Goals as goal

pub loop-k-init : goal.loop-k-init
loop-k-init c = none_answered _

pub loop-k-preserved : goal.loop-k-preserved
loop-k-preserved c =
    let v = c.loop-k in
    let long = v.invariant.as_long in
    let route = c.routed in
    one_more v.invariant (omega arith) (route.result, route.ensures, c.found.ensures)
