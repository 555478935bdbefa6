-- The frontier over what is stopped: one stage on, empty, and at its end.
use mathlib.Core.Path.{◌≡◌, sym, ap, ap₂, subst, ◌∙◌}
use mathlib.Core.Bool.{Bool}
use Prim.Native.Nat.{ℕ, suc, ◌+◌, ◌*◌, ◌≤◌, ◌<◌}
use native.Mathlib.Numerals.{add-one}
use native.Mathlib.Omega.{arith}
use lib.Dec.{eqb}
use Rattle.fabric.specs.Labels.{size, bit}
use Rattle.fabric.specs.Walks.{walked}
use Rattle.frontier.specs.declared.Front.{Front}
use Rattle.frontier.specs.declared.links.Stops.{Stops}
use Rattle.paths.specs.Clear.{Rule}
use Rattle.frontier.specs.Columns.{Distance, high_right}
use Rattle.frontier.proofs.HighSwitch.{right_where}
use Rattle.frontier.specs.Stops.{links_of, set_at, StopsUnder}
use Rattle.frontier.specs.Frontier.{lesser, advanced, mirrored}
use Rattle.frontier.specs.WaysOnward.{ways_onward}
use Rattle.paths.proofs.Named.{stage_named, none_clear}
use Rattle.paths.proofs.Ways.{some_way}
use Rattle.frontier.proofs.Frontier.{Looks, Holds, looks_from, advanced_holds, onward_best, found_first}
use Rattle.frontier.proofs.WaysOnward.{ways_are}
use Rattle.std.specs.Prelude.{Ok}
use Rattle.routes.specs.Routed.{Routed}
use Rattle.crossing.specs.Crossed.{StuckAt}

module _ (n : ℕ) (stops : Rule) (s d : ℕ) (source : s < size n) where
  -- whether the high switch's bit is right, read off the distance
  pub right_read : n ≤ 12 → (far : ℕ) → Distance s d far → (i : ℕ) → i < n → {b : ℕ} → b ≡ bit i far → high_right n s d i ≡ eqb b 0
  right_read few far distance i h e = right_where n s d far few source distance i h ∙ ap (λ (x : ℕ). eqb x 0) (sym e)

  -- one stage on, by the set that is stopped there
  pub front_on : (w : Stops) → StopsUnder n stops s d w → (i : ℕ) → i < n → {t set : ℕ} {right : Bool} → high_right n s d i ≡ right → t ≡ bit i d → set ≡ set_at i w
      → (front next : Front) → next ≡ advanced n right t (links_of set) front → Holds n stops s d i front → Holds n stops s d (i + 1) next
  front_on w under i h {right = right} er et es front next e held =
      let look : Looks n stops s d i right (links_of (set_at i w)) =
      subst (λ (b : Bool). Looks n stops s d i b (links_of (set_at i w))) er (looks_from n stops s d i (high_right n s d i) (links_of (set_at i w)) (under i h)) in
      let on = advanced_holds n stops s d source i h right er (links_of (set_at i w)) look front held in
      let same = e ∙ ap₂ (λ (x y : ℕ). advanced n right x (links_of y) front) et es in
      subst (λ (k : ℕ). Holds n stops s d k next) (sym (add-one i)) (subst (Holds n stops s d (suc i)) (sym same) on)

  -- a frontier that is reached no more
  pub none_ahead : (i : ℕ) → i < n → (right : Bool) → high_right n s d i ≡ right → (front next : Front) → Holds n stops s d i front
      → lesser front.high front.low < size n → Holds n stops s d (i + 1) next → size n ≤ lesser next.high next.low
      → StuckAt n stops s d i (ways_onward n right front)
  none_ahead i h right er front next held alive held' gone =
      let w = (onward_best n stops s d source i (omega arith) front held).reached alive in
      let empty = (onward_best n stops s d source (suc i) h next (subst (λ (k : ℕ). Holds n stops s d k next) (add-one i) held')).unreached gone in
      let way = some_way n stops s d i h w.walk w.among in
      record {
        inside = h;
        none = none_clear n stops s d i h empty;
        named = stage_named n stops s d i h w.walk w.among empty;
        onward = ways_are n stops s d source i h right er front held;
        some = (walked n 0 s w.walk, way.0, way.1);
      }

  -- a frontier that reaches the last column
  pub found_ahead : d < size n → (i tag : ℕ) → i ≡ n → (front : Front) → Holds n stops s d i front → lesser front.high front.low < size n
      → tag ≡ d + size n * mirrored n (lesser front.high front.low) → Routed n stops s d (Ok tag)
  found_ahead hd i tag e front held alive et =
      let w = found_first n stops s d source hd front (subst (λ (k : ℕ). Holds n stops s d k front) e held) alive in
      (w.steps, w.first, et ∙ w.normal)
