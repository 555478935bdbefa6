-- 10, 5, or what crossing finds, with the number of the first counted notice that stops a way onward where it is stuck.
use Rattle.std.proofs.Common.{Err}
use mathlib.Core.Path.{sym, ap, ◌∙◌}
use native.Mathlib.Omega.{arith}
use Rattle.std.specs.Prelude.{Option, unwrap_or, ℕ}
use Rattle.notices.specs.Classes.{counts}
use Rattle.notices.proofs.Classes.{class_within}
use Rattle.standing.proofs.Picked.{lowest_those}
use Rattle.book.specs.Standing.{standing, counted, counted_stops}
use Rattle.crossing.specs.Crossed.{CrossedBy}
use Rattle.router.proofs.Naming.{number_named}
use Rattle.router.proofs.Passing.{refused_choice, found_route, standing_filed, counted_filed, crossed_counted}
use Rattle.router.proofs.Telling.{ways_of, class_at}
use Rattle.router.proofs.routed.Goals as goal

pub returns-then-bad_class : goal.returns-then-bad_class
returns-then-bad_class c =
    let source = sym c.outside_labels.ensures.0 ∙ c.if-outside_labels.false in
    let destination = sym c.outside_labels-else-outside_labels.ensures.0 ∙ c.if-outside_labels-2.false in
    refused_choice _ _ _ _ c.args.book.now.sound (rw c.fabric-fabric.ensures at source) (rw c.fabric-fabric.ensures at destination) (sym c.bad_class.ensures ∙ c.if-bad_class.true)

pub stopped-stops-requires : goal.stopped-stops-requires
stopped-stops-requires c = (
  (class_within c.args.choice).0 (sym c.bad_class.ensures ∙ c.if-bad_class.false),
  ways_of _ _ _ (c.outside_labels.ensures.1 c.if-outside_labels.false) _ c.between-columns.ensures,
  rw (c.fabric-fabric.ensures, c.notices.ensures) (standing_filed c.args.book.now.book c.args.book.now.sound),
)

pub first_stopping-named-requires : goal.first_stopping-named-requires
first_stopping-named-requires c =
    let b = c.args.book.now.book in
    let e = c.fabric-fabric.ensures in
    let sound = c.args.book.now.sound in
    let stuck : CrossedBy b.n (counted_stops c.args.choice b) c.args.source c.args.destination (Err c.in-Err.stuck) =
    crossed_counted b _ _ c.args.choice _ _ sound (rw e at c.between-columns.ensures) (rw (e, c.notices.ensures) at c.stopped-stops.ensures) (rw e at c.cross.ensures) c.in-Err.is in (
      (class_within c.args.choice).0 (sym c.bad_class.ensures ∙ c.if-bad_class.false),
      rw e stuck.inside,
      ways_of _ _ _ (c.outside_labels.ensures.1 c.if-outside_labels.false) _ c.between-columns.ensures,
      rw c.notices-in-Err.ensures (λ k d h. class_at b.n (standing b) d k (standing_filed b sound) h),
    )

pub returns-in-Ok : goal.returns-in-Ok
returns-in-Ok c =
    let b = c.args.book.now.book in
    let e = c.fabric-fabric.ensures in
    let sound = c.args.book.now.sound in
    let source = sym c.outside_labels.ensures.0 ∙ c.if-outside_labels.false in
    let destination = sym c.outside_labels-else-outside_labels.ensures.0 ∙ c.if-outside_labels-2.false in
    found_route b _ _ _ sound (rw e at source) (rw e at destination) (sym c.bad_class.ensures ∙ c.if-bad_class.false) _
    (crossed_counted b _ _ c.args.choice _ _ sound (rw e at c.between-columns.ensures) (rw (e, c.notices.ensures) at c.stopped-stops.ensures) (rw e at c.cross.ensures) c.in-Ok.is)

pub returns-in-Err : goal.returns-in-Err
returns-in-Err c =
    let b = c.args.book.now.book in
    let q = c.args.choice in
    let e = c.fabric-fabric.ensures in
    let sound = c.args.book.now.sound in
    let source = sym c.outside_labels.ensures.0 ∙ c.if-outside_labels.false in
    let destination = sym c.outside_labels-else-outside_labels.ensures.0 ∙ c.if-outside_labels-2.false in
    let columns = rw e at c.between-columns.ensures in
    let stuck : CrossedBy b.n (counted_stops q b) c.args.source c.args.destination (Err c.in-Err.stuck) =
    crossed_counted b _ _ q _ _ sound columns (rw (e, c.notices.ensures) at c.stopped-stops.ensures) (rw e at c.cross.ensures) c.in-Err.is in
    let inside = stuck.inside in
    let first = rw (e, c.notices-in-Err.ensures) at c.first_stopping-named.ensures in
    found_route b _ _ _ sound (rw e at source) (rw e at destination) (sym c.bad_class.ensures ∙ c.if-bad_class.false) _
    (number_named b.n (counted q b) (counted_filed b q sound) _ _ _ _ _ (columns.at _ (omega arith)) stuck _
    (c.unwrap_or.ensures ∙ ap (λ (k : Option ℕ). unwrap_or k 0) first ∙ sym (lowest_those (counts q) _ (standing b))))
