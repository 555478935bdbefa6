-- A route, computed: the frontier of column i, and the answer that it leads to. It is what docs/RULES.md says, so it can
-- stand for it where an example is computed.
use Rattle.std.specs.Prelude.{Ok, Err}
use Rattle.routes.specs.declared.NoRoute.{NoRoute}
use mathlib.Core.Path.{◌≡◌, refl, sym, subst}
use mathlib.Core.Bool.{Bool, true, false, cond}
use mathlib.Core.List.{List}
use Prim.Native.Nat.{ℕ, zero, suc, ◌+◌, ◌*◌, ◌<◌}
use native.Mathlib.Numerals.{add-one}
use native.Mathlib.Omega.{arith}
use borrow.Author.Tests.{ltb-true, ltb-false}
use lib.Dec.{ltb}
use Rattle.fabric.specs.Labels.{size, bit}
use Rattle.frontier.specs.declared.Front.{Front}
use Rattle.paths.specs.Clear.{Rule, ClearPath, StageNamed}
use Rattle.paths.specs.Ways.{NumberNamed}
use Rattle.paths.proofs.Named.{stage_once}
use Rattle.frontier.specs.Columns.{high_right, straight_at, fork_at}
use Rattle.frontier.specs.Stops.{stops_from}
use Rattle.frontier.specs.Frontier.{start, lesser, advanced, mirrored}
use Rattle.frontier.proofs.Places.{start_reached}
use Rattle.frontier.proofs.Frontier.{Holds, looks_from, start_holds, advanced_holds}
use Rattle.routes.specs.Routed.{Routed, Found}
use Rattle.frontier.specs.WaysOnward.{ways_onward}
use Rattle.crossing.proofs.Routing.{none_ahead, found_ahead}
use Rattle.crossing.proofs.Least.{least_on, stuck_number}

-- the frontier one stage on
abbrev on_front : ℕ → Rule → ℕ → ℕ → ℕ → Front → Front
on_front n stops s d i f = advanced n (high_right n s d i) (bit i d) (stops_from stops i (straight_at n s d i) (fork_at n s d i)) f

-- on through a frontier that is reached; else stage and number are named
abbrev through : ℕ → Front → (Front → Found) → ℕ → ℕ → Found
through n g rest i number = cond (ltb (lesser g.high g.low) (size n)) (rest g) (Err (NoRoute.NoClearPath i number))

-- the lowest number that stops a way onward out of a frontier of column i
abbrev number_from : ℕ → Rule → ℕ → ℕ → ℕ → Front → ℕ
number_from n stops s d i f = least_on stops n s d i (ways_onward n (high_right n s d i) f)

-- the answer from a frontier of column i on, with so many stages left
unfoldable pub answer_from : ℕ → Rule → ℕ → ℕ → ℕ → ℕ → Front → Found
answer_from n stops s d zero i f = Ok (d + size n * mirrored n (lesser f.high f.low))
answer_from n stops s d (suc left) i f = through n (on_front n stops s d i f) (λ g. answer_from n stops s d left (suc i) g) i (number_from n stops s d i f)

abbrev pub route_of : ℕ → Rule → ℕ → ℕ → Found
route_of n stops s d = answer_from n stops s d n 0 (start n)

module _ (n : ℕ) (stops : Rule) (s d : ℕ) (source : s < size n) (dest : d < size n) where
  on_holds : (i : ℕ) → i < n → (f : Front) → Holds n stops s d i f → Holds n stops s d (suc i) (on_front n stops s d i f)
  on_holds i h f held =
      let x = stops_from stops i (straight_at n s d i) (fork_at n s d i) in
      advanced_holds n stops s d source i h (high_right n s d i) refl x (looks_from n stops s d i (high_right n s d i) x refl) f held

  from_routed : (left i : ℕ) (f : Front) → i + left ≡ n → Holds n stops s d i f → lesser f.high f.low < size n → Routed n stops s d (answer_from n stops s d left i f)
  unfolding answer_from
  from_routed zero i f e held alive = found_ahead n stops s d source dest i _ (omega arith) f held alive refl
  from_routed (suc left) i f e held alive =
      go (ltb (lesser g.high g.low) (size n)) refl (from_routed left (suc i) g (omega arith) (on_holds i (omega arith) f held))
    where
      g : Front
      g = on_front n stops s d i f

      number : ℕ
      number = number_from n stops s d i f

      go : (b : Bool) → ltb (lesser g.high g.low) (size n) ≡ b
          → (lesser g.high g.low < size n → Routed n stops s d (answer_from n stops s d left (suc i) g))
          → Routed n stops s d (through n g (λ x. answer_from n stops s d left (suc i) x) i number)
      go true r rest = subst (λ (b : Bool). Routed n stops s d (cond b (answer_from n stops s d left (suc i) g) (Err (NoRoute.NoClearPath i number)))) (sym r) (rest (ltb-true _ _ r))
      go false r rest =
          let next = subst (λ (k : ℕ). Holds n stops s d k g) (sym (add-one i)) (on_holds i (omega arith) f held) in
          subst (λ (b : Bool). Routed n stops s d (cond b (answer_from n stops s d left (suc i) g) (Err (NoRoute.NoClearPath i number)))) (sym r)
          (let stuck = none_ahead n stops s d source i (omega arith) (high_right n s d i) refl f g held alive next (ltb-false _ _ r) in
          (stuck.none, stuck.named, stuck_number n stops s d i _ stuck))

  -- there is always an answer, and this is it
  pub route_of_routed : Routed n stops s d (route_of n stops s d)
  route_of_routed = from_routed n 0 (start n) (omega arith) (start_holds n stops s d source) (start_reached n)

  -- so where no path is clear there is a stage to name and a number with it,
  pub none_named : ((cs : List ℕ) → ClearPath n stops s d cs → ⊥) → (i : ℕ) × (k : ℕ) × StageNamed n stops s d i × NumberNamed n stops s d i k
  none_named empty = go (route_of n stops s d) route_of_routed
    where
      go : (a : Found) → Routed n stops s d a → (i : ℕ) × (k : ℕ) × StageNamed n stops s d i × NumberNamed n stops s d i k
      go (Ok t) w = absurd (empty w.0 w.1.clear_path)
      go (Err (NoRoute.NoClearPath i k)) w = (i, k, w.1, w.2)
      go (Err (NoRoute.Refused r)) w = absurd w

  -- and the stage that is named has its number
  pub number_exists : ((cs : List ℕ) → ClearPath n stops s d cs → ⊥) → (i : ℕ) → StageNamed n stops s d i → (k : ℕ) × NumberNamed n stops s d i k
  number_exists empty i named =
      let w = none_named empty in
      (w.1, subst (λ (x : ℕ). NumberNamed n stops s d x w.1) (stage_once n stops s d w.0 i w.2 named) w.3)
