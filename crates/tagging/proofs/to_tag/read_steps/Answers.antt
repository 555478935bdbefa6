use mathlib.Core.Path.{refl, ap, ◌∙◌}
use Rattle.fabric.specs.Labels.{bit}
use Prim.Native.Nat.{◌+◌, ◌^◌, ◌≤◌}
use native.Mathlib.Omega.{arith}
use borrow.Author.Rules.{rules}
use lib.Pow.{pow_mono}
use Rattle.fabric.specs.Walks.{walked}
use Rattle.tagging.proofs.Reading.{collects, collected}
use Rattle.scheme.specs.Tags.{states_of}
use Rattle.tagging.proofs.to_tag.read_steps.Goals as goal

pub loop-i-init : goal.loop-i-init
unfolding walked states_of
loop-i-init c = (search rules, search rules, search rules, refl, refl)

pub overflow_add-states : goal.overflow_add-states
overflow_add-states c =
    let a = c.args in
    let v = c.loop-i in
    let on = collects a.fabric.n a.source a.memory.now v.i v.j v.states v.invariant.1 _ _ _ (omega arith) v.invariant.3 v.invariant.4 (c.bit_of.ensures.2 ∙ ap (bit v.i) c.bit_of.ensures.1) c.state_for-state.ensures.0 c.state_bit-states.ensures in
    let p : 2 ^ (v.i + 1) ≤ 2 ^ 12 = pow_mono {j = 12} (omega arith) in
    omega arith

pub loop-i-preserved : goal.loop-i-preserved
loop-i-preserved c =
    let a = c.args in
    let v = c.loop-i in
    let on = collects a.fabric.n a.source a.memory.now v.i v.j v.states v.invariant.1 _ _ _ (omega arith) v.invariant.3 v.invariant.4 (c.bit_of.ensures.2 ∙ ap (bit v.i) c.bit_of.ensures.1) c.state_for-state.ensures.0 c.state_bit-states.ensures in
    (omega arith, v.invariant.1, c.landing-j.ensures.1, c.landing-j.ensures.0 ∙ on.0, on.1)

pub tag_of-requires : goal.tag_of-requires
tag_of-requires c =
    let a = c.args in
    let v = c.loop-i in
    (search rules, (collected a.fabric.n a.source a.memory.now v.i v.j v.states v.invariant.1 (omega arith) v.invariant.3 v.invariant.4).0)

pub returns : goal.returns
returns c =
    let a = c.args in
    let v = c.loop-i in
    c.tag_of.ensures ∙ (collected a.fabric.n a.source a.memory.now v.i v.j v.states v.invariant.1 (omega arith) v.invariant.3 v.invariant.4).1
