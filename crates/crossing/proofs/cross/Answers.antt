use mathlib.Core.Path.{sym, ap, subst, ◌∙◌}
use Prim.Native.Nat.{ℕ, ◌+◌, ◌*◌, ◌/◌, ◌%◌, ◌^◌, ◌<◌}
use native.Mathlib.Nat.{div-one}
use native.Mathlib.Numerals.{add-one}
use native.Mathlib.Omega.{arith}
use borrow.Author.Rules.{rules}
use lib.Pow.{shr-shr}
use Rattle.fabric.specs.Labels.{size}
use Rattle.frontier.proofs.BitRead.{bit_read}
use Rattle.frontier.proofs.Places.{few_labels, start_reached, advanced_small, small_fits}
use Rattle.frontier.proofs.Frontier.{Holds, start_holds}
use Rattle.crossing.specs.Crossed.{StuckAt}
use Rattle.crossing.proofs.Routing.{right_read, front_on, none_ahead, found_ahead}
use Rattle.crossing.proofs.cross.Goals as goal

pub loop-i-init : goal.loop-i-init
loop-i-init c =
    let a = c.args in
    let e = c.at_source-front.ensures in
    let few = few_labels a.fabric.n (search rules) in
    record {
      onward = sym (div-one a.stops.sets);
      high_fits = rw e (omega arith);
      low_fits = rw e (omega arith);
      reached = rw e (start_reached a.fabric.n);
      holds = λ rule under. subst (Holds a.fabric.n rule a.source a.destination 0) (sym e) (start_holds a.fabric.n rule a.source a.destination (search rules));
    }

pub advance-next-requires : goal.advance-next-requires
advance-next-requires c =
    let v = c.loop-i in
    let h : v.i < 12 = search rules in
    (search rules, small_fits v.i v.front.high h v.invariant.high_fits, small_fits v.i v.front.low h v.invariant.low_fits)

pub returns-then-not-reached : goal.returns-then-not-reached
returns-then-not-reached c = λ rule under.
    let a = c.args in
    let v = c.loop-i in
    let w = v.invariant in
    let inside : v.i < a.fabric.n = omega arith in
    let right = right_read a.fabric.n rule a.source a.destination (search rules) (search rules) _ c.distance-distance.ensures v.i inside (bit_read _ _ c.bit_of-right.ensures) in
    let held = w.holds rule under in
    let next =
    front_on a.fabric.n rule a.source a.destination (search rules) a.stops under v.i inside right (bit_read _ _ c.bit_of-t.ensures) (ap (λ (x : ℕ). x % 16) w.onward) v.front _ c.advance-next.ensures held in
    subst (StuckAt a.fabric.n rule a.source a.destination v.i) (sym c.ways_onward-ways.ensures.0)
    (none_ahead a.fabric.n rule a.source a.destination (search rules) v.i inside _ right v.front _ held w.reached next (c.reached.ensures.1 c.if-not-reached.true))

pub loop-i-preserved : goal.loop-i-preserved
loop-i-preserved c =
    let a = c.args in
    let v = c.loop-i in
    let w = v.invariant in
    let inside : v.i < a.fabric.n = omega arith in
    let more = add-one v.i in
    let e = c.advance-next.ensures in
    let small = advanced_small a.fabric.n v.i (search rules) _ c.bit_of-t.result _ v.front (search rules) w.high_fits w.low_fits in
    record {
      onward = ap (λ (x : ℕ). x / 16) w.onward ∙ shr-shr a.stops.sets (4 * v.i) 4 ∙ ap (λ (k : ℕ). a.stops.sets / 2 ^ k) {x = 4 * v.i + 4} {y = 4 * (v.i + 1)} (omega arith);
      high_fits = rw (more, e) small.0;
      low_fits = rw (more, e) small.1;
      reached = c.reached.ensures.0 c.if-not-reached.false;
      holds = λ rule under.
          let right = right_read a.fabric.n rule a.source a.destination (search rules) (search rules) _ c.distance-distance.ensures v.i inside (bit_read _ _ c.bit_of-right.ensures) in
          front_on a.fabric.n rule a.source a.destination (search rules) a.stops under v.i inside right (bit_read _ _ c.bit_of-t.ensures) (ap (λ (x : ℕ). x % 16) w.onward) v.front _ e (w.holds rule under);
    }

pub returns : goal.returns
returns c = λ rule under.
    let a = c.args in
    let v = c.loop-i in
    found_ahead a.fabric.n rule a.source a.destination (search rules) (search rules) v.i _ (omega arith) v.front (v.invariant.holds rule under) v.invariant.reached
    (c.tag_of.ensures ∙ ap (λ (x : ℕ). a.destination + size a.fabric.n * x) c.first_states.ensures.0)
