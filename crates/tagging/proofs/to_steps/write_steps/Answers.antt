use mathlib.Core.Path.{◌≡◌, refl, ap, ◌∙◌}
use mathlib.Core.List.{List, ◌++◌}
use Prim.Native.Nat.{ℕ, ◌≤◌}
use native.Mathlib.Omega.{arith}
use borrow.Author.Rules.{rules}
use lib.ListN.{length, take, drop, length-set}
use lib.Seq.{take_all}
use Rattle.fabric.specs.Walks.{walked}
use Rattle.scheme.specs.Tags.{steps_of}
use Rattle.scheme.proofs.Steps.{steps_of_tag, step_on}
use Rattle.tagging.proofs.Lent.{front_more}
use Rattle.tagging.proofs.to_steps.write_steps.Goals as goal

pub loop-i-init : goal.loop-i-init
unfolding walked
loop-i-init c = (search rules, search rules, search rules, refl, refl, refl)

pub loop-i-preserved : goal.loop-i-preserved
loop-i-preserved c =
    let a = c.args in
    let v = c.loop-i in
    let w = v.invariant in
    let l = (steps_of_tag a.fabric.n a.source a.tag).stages in
    let on = step_on a.fabric.n a.source a.tag v.i v.j _ (omega arith) w.3 c.step_of-code.ensures.0 in (
      omega arith,
      w.1,
      c.landing-j.ensures.1,
      c.landing-j.ensures.0 ∙ on.1,
      rw (w.4, on.0) (front_more (steps_of a.fabric.n a.source a.tag) a.memory.now 0 v.i (omega arith) (omega arith)),
      length-set v.memory v.i _ ∙ w.5,
    )

pub returns : goal.returns
returns c =
    let a = c.args in
    let v = c.loop-i in
    let p : List ℕ = steps_of a.fabric.n a.source a.tag in
    let e : v.i ≡ a.fabric.n = omega arith in
    let l : length p ≤ a.fabric.n = let q = (steps_of_tag a.fabric.n a.source a.tag).stages in omega arith in
    v.invariant.4 ∙ ap (λ (k : ℕ). take k p ++ drop k a.memory.now) e ∙ ap (λ (x : List ℕ). x ++ drop a.fabric.n a.memory.now) (take_all a.fabric.n p l)
