-- The ways onward at a stage are the links that lead on from those of the column's two switches that are reached.
use Rattle.std.proofs.Common.{◌≡◌, ℕ, suc, ◌-◌, ◌<◌, Bool, true, false, cond, eqb, ltb, ◌⊎◌, ◌↔◌, List, sym, ◌∙◌, subst, inl, inr, ⊎_elim, arith, ltb-true, lt-ltb, eq-eqb, ne_eqb}
use native.Mathlib.Decide.{ℕ_discrete, dec_lt}
use Rattle.fabric.specs.Labels.{size, bit, Agree}
use Rattle.fabric.specs.Links.{Code, lands}
use Rattle.fabric.proofs.Bits.{bit_lt}
use Rattle.fabric.proofs.Links.{toward_straight, toward_nonstraight, straight_toward, nonstraight_toward}
use Rattle.paths.specs.Clear.{Rule, Onward}
use Rattle.paths.specs.Ways.{Way}
use Rattle.paths.proofs.Ways.{way_onward, onward_way}
use Rattle.frontier.specs.declared.Front.{Front}
use Rattle.frontier.specs.Columns.{high, low, high_right}
use Rattle.frontier.specs.Stops.{has, set_of}
use Rattle.frontier.specs.WaysOnward.{ways_onward, WaysAre}
use Rattle.frontier.proofs.Best.{Best}
use Rattle.frontier.proofs.Frontier.{Holds}
use Rattle.frontier.proofs.Pivots.{high_agrees, low_agrees, high_bit_right, low_bit_wrong, high_bit_wrong, low_bit_right}
use Rattle.frontier.proofs.Sets.{set_of_has}
use Rattle.frontier.proofs.Sides.{Arrives, sides, sides_complete, up_arrives, down_arrives}

module _ (n : ℕ) (stops : Rule) (s d : ℕ) (source : s < size n) (i : ℕ) (inside : i < n) where
  -- one of the two switches, the clear walks to it, and the first of them
  record Side (j p : ℕ) (P : List ℕ → Type 0) : Type 0 where
    agrees : Agree i j d
    arrives : (cs : List ℕ) → P cs → Arrives n stops s d i j cs
    best : Best n s P p

  reached_by : {j p : ℕ} {P : List ℕ → Type 0} → Side j p P → (cs : List ℕ) → P cs → p < size n
  reached_by {j} {p} {P} side cs w = go (dec_lt p (size n))
    where
      go : Dec (p < size n) → p < size n
      go (yes l) = l
      go (no l) = absurd (side.best.unreached (omega arith) cs w)

  way_from_side : {j p : ℕ} {P : List ℕ → Type 0} → Side j p P → p < size n → (c : ℕ) → Code c → Agree (suc i) (lands n i c j) d → Way n stops s d i j c
  way_from_side side l c code toward =
      let w = side.best.reached l in
      let a = side.arrives w.walk w.among in
      subst (λ (x : ℕ). Way n stops s d i x c) a.at (onward_way n stops s d i inside w.walk c a.onward code (rw a.at toward))

  -- the switch that goes straight, and the one that forks
  module _ (straight fork p q : ℕ) (P Q : List ℕ → Type 0) (stays : Side straight p P) (forks : Side fork q Q)
      (right : bit i straight ≡ bit i d) (wrong : bit i fork ≡ 1 - bit i d) (complete : (cs : List ℕ) → Onward n stops s d i cs → P cs ⊎ Q cs) where
    abbrev put : ℕ → Bool
    put c = cond (eqb c 0) (ltb p (size n)) (ltb q (size n))

    turned : bit i fork ≡ bit i d → ⊥
    turned e = let b = bit_lt i d in absurd (omega arith)

    told : (j c : ℕ) → Way n stops s d i j c → (c < 3) × (put c ≡ true) × (j ≡ cond (eqb c 0) straight fork)
    told j c w = ⊎_elim on_straight on_fork (complete w.walk (way_onward n stops s d i inside j c w))
      where
        on_straight : P w.walk → (c < 3) × (put c ≡ true) × (j ≡ cond (eqb c 0) straight fork)
        on_straight u =
            let e : j ≡ straight = sym w.reaches ∙ (stays.arrives w.walk u).at in
            let z : c ≡ 0 = toward_straight n i inside c straight d (subst (λ (x : ℕ). Agree (suc i) (lands n i c x) d) e w.toward) right in
            let f = eq-eqb c 0 z in
            (w.code, rw f (lt-ltb p (size n) (reached_by stays w.walk u)), rw f e)

        on_fork : Q w.walk → (c < 3) × (put c ≡ true) × (j ≡ cond (eqb c 0) straight fork)
        on_fork v =
            let e : j ≡ fork = sym w.reaches ∙ (forks.arrives w.walk v).at in
            let z : 0 < c = toward_nonstraight n i inside c fork d (subst (λ (x : ℕ). Agree (suc i) (lands n i c x) d) e w.toward) turned in
            let f = ne_eqb c 0 (λ y. omega arith) in
            (w.code, rw f (lt-ltb q (size n) (reached_by forks w.walk v)), rw f e)

    back : (j c : ℕ) → (c < 3) × (put c ≡ true) × (j ≡ cond (eqb c 0) straight fork) → Way n stops s d i j c
    back j c v = go (ℕ_discrete c 0)
      where
        go : Dec (c ≡ 0) → Way n stops s d i j c
        go (yes z) =
            let f = eq-eqb c 0 z in
            let l = ltb-true p (size n) (rw f at v.1) in
            let e : j ≡ straight = rw f at v.2 in
            subst (λ (x : ℕ). Way n stops s d i x c) (sym e)
            (way_from_side stays l c v.0 (rw z (straight_toward n i inside straight d stays.agrees right)))
        go (no z) =
            let f = ne_eqb c 0 z in
            let l = ltb-true q (size n) (rw f at v.1) in
            let e : j ≡ fork = rw f at v.2 in
            subst (λ (x : ℕ). Way n stops s d i x c) (sym e)
            (way_from_side forks l c v.0 (nonstraight_toward n i inside c fork d (omega arith) forks.agrees turned))

    exactly : (j c : ℕ) → Way n stops s d i j c
        ↔ ((c < 3) × (has (set_of (ltb p (size n)) (ltb q (size n)) (ltb q (size n))) c ≡ true) × (j ≡ cond (eqb c 0) straight fork))
    exactly j c = (
      (λ w. let t = told j c w in (t.0, set_of_has put c t.0 ∙ t.1, t.2)),
      (λ t. back j c (t.0, sym (set_of_has put c t.0) ∙ t.1, t.2)),
    )

  high_side : (f : Front) → Holds n stops s d i f → Side (high n s d i) f.high (sides n stops s d i).up
  high_side f held = record { agrees = high_agrees n s d source i (omega arith); arrives = up_arrives n stops s d source i (omega arith); best = held.high }

  low_side : (f : Front) → Holds n stops s d i f → Side (low n s d i) f.low (sides n stops s d i).down
  low_side f held = record { agrees = low_agrees n s d source i inside; arrives = down_arrives n stops s d source i (omega arith); best = held.low }

  turned_round : {A B : Type 0} → A ⊎ B → B ⊎ A
  turned_round v = ⊎_elim inr inl v

  -- the set that the frontier makes holds the ways onward
  pub ways_are : (right : Bool) → high_right n s d i ≡ right → (f : Front) → Holds n stops s d i f → WaysAre n stops s d i (ways_onward n right f)
  ways_are true e f held j c =
      rw e
      (exactly (high n s d i) (low n s d i) f.high f.low (sides n stops s d i).up (sides n stops s d i).down (high_side f held) (low_side f held)
      (high_bit_right n s d source i inside e) (low_bit_wrong n s d source i inside e) (sides_complete n stops s d source i (omega arith)) j c)
  ways_are false e f held j c =
      rw e
      (exactly (low n s d i) (high n s d i) f.low f.high (sides n stops s d i).down (sides n stops s d i).up (low_side f held) (high_side f held)
      (low_bit_right n s d source i inside e) (high_bit_wrong n s d source i inside e) (λ cs o. turned_round (sides_complete n stops s d source i (omega arith) cs o)) j c)
