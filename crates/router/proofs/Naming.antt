-- Where there is no path, the first standing notice that stops one of the ways onward is the one that is named.
use Rattle.std.specs.Prelude.{Err}
use Rattle.routes.specs.declared.NoRoute.{NoRoute}
use mathlib.Core.Path.{◌≡◌, refl, sym, ap, ap₂, ◌∙◌}
use mathlib.Core.Bool.{Bool, true, false, cond, ◌&&◌, ◌||◌, false≢true}
use mathlib.Core.List.{List}
use Prim.Native.Nat.{ℕ, zero, suc, ◌≤◌, ◌<◌}
use native.Mathlib.Omega.{arith}
use lib.Dec.{eqb}
use Rattle.table.proofs.Checks.{both_hold}
use Rattle.frontier.specs.declared.ways.Column.{Column}
use Rattle.frontier.specs.declared.ways.Columns.{Columns}
use Rattle.frontier.specs.Columns.{column_at, IsColumn}
use Rattle.frontier.specs.Stops.{has, share}
use Rattle.frontier.specs.WaysOnward.{way_from}
use Rattle.notices.specs.declared.Notice.{Notice}
use Rattle.notices.specs.Notices.{names, unfit}
use Rattle.standing.specs.Picked.{Picked, lowest}
use Rattle.standing.specs.Rising.{Filed}
use Rattle.standing.proofs.Lowest.{lowest_least, lowest_exactly, lowest_number_as}
use Rattle.paths.proofs.Ways.{way_stopped}
use Rattle.book.specs.Standing.{stopper}
use Rattle.book.proofs.Stoppers.{stopper_names}
use Rattle.routes.specs.Routed.{Routed, StopsAWay}
use Rattle.routes.proofs.Numbers.{number_by_notices}
use Rattle.crossing.specs.Crossed.{StuckAt}
use Rattle.named_links.specs.Named.{SetWhere, of_two, out_of}
use Rattle.router.specs.Told.{stops_one_of}

-- the links that a notice names are among the ways onward where the two sets have one in common
pub shared_stops : (n : ℕ) (columns : Columns) (i ways set : ℕ) (x : Notice) {switches : Column} → switches ≡ column_at columns i → SetWhere (λ c. names n x i (of_two switches c) c) set
    → share set ways ≡ stops_one_of n columns i ways x
shared_stops n columns i ways set x e w =
    ap₂ (λ (a b : Bool). a || b) (on 0 (omega arith)) (ap₂ (λ (a b : Bool). a || b) (on 1 (omega arith)) (on 2 (omega arith)))
  where
    on : (c : ℕ) → c < 3 → (has set c && has ways c) ≡ (names n x i (out_of columns i c) c && has ways c)
    on c h = ap (λ (b : Bool). b && has ways c) (w.1 c h ∙ ap (λ (y : Column). names n x i (of_two y c) c) e)

-- one of three holds
one_of : (f : ℕ → Bool) → (f 0 || (f 1 || f 2)) ≡ true → (c : ℕ) × (c < 3) × (f c ≡ true)
one_of f e = go (f 0) (f 1) (f 2) refl refl refl e
  where
    go : (x y z : Bool) → f 0 ≡ x → f 1 ≡ y → f 2 ≡ z → (x || (y || z)) ≡ true → (c : ℕ) × (c < 3) × (f c ≡ true)
    go true y z p q r h = (0, omega arith, p)
    go false true z p q r h = (1, omega arith, q)
    go false false true p q r h = (2, omega arith, r)
    go false false false p q r h = absurd (false≢true h)

of_one : (f : ℕ → Bool) (c : ℕ) → c < 3 → f c ≡ true → (f 0 || (f 1 || f 2)) ≡ true
of_one f zero h e = rw e
of_one f (suc zero) h e = rw e (or_true (f 0))
  where
    or_true : (a : Bool) → (a || true) ≡ true
    or_true true = refl
    or_true false = refl
of_one f (suc (suc zero)) h e = rw e (or_or_true (f 0) (f 1))
  where
    or_or_true : (a b : Bool) → (a || (b || true)) ≡ true
    or_or_true true b = refl
    or_or_true false true = refl
    or_or_true false false = refl
of_one f (suc (suc (suc c))) h e = absurd (omega arith)

module _ (n : ℕ) (l : List Notice) (filed : Filed (unfit n) 0 l) (s d i ways : ℕ) (columns : Columns)
    (here : IsColumn n s d i (column_at columns i)) (stuck : StuckAt n (stopper n l) s d i ways) where
  abbrev test : Notice → Bool
  test = stops_one_of n columns i ways

  same_switch : (c : ℕ) → out_of columns i c ≡ way_from n s d i c
  same_switch c = ap₂ (λ (x y : ℕ). cond (eqb c 0) x y) here.straight here.fork

  -- what the pass looks for is a notice that stops a way onward
  picked_stops : (x : Notice) → Picked test l x → StopsAWay n l s d i x
  picked_stops x p =
      let w = one_of (λ c. names n x i (out_of columns i c) c && has ways c) p.1 in
      let c : ℕ = w.0 in
      let v = (both_hold (names n x i (out_of columns i c) c) (has ways c)).0 w.2 in
      (p.0, (out_of columns i c, c, (stuck.onward (out_of columns i c) c).1 (w.1, v.1, same_switch c), v.0))

  stops_picked : (x : Notice) → StopsAWay n l s d i x → Picked test l x
  stops_picked x h =
      let v = h.1 in
      let c : ℕ = v.1 in
      let w = (stuck.onward v.0 c).0 v.2 in
      let e : names n x i (out_of columns i c) c ≡ true = ap (λ (j : ℕ). names n x i j c) (same_switch c ∙ sym w.2) ∙ v.3 in
      (h.0, of_one (λ c. names n x i (out_of columns i c) c && has ways c) c w.0 ((both_hold (names n x i (out_of columns i c) c) (has ways c)).1 (e, w.1)))

  -- there is one
  some_picked : 1 ≤ lowest test l
  some_picked =
      let way = stuck.some in
      let held = way_stopped n (stopper n l) s d i stuck.inside stuck.named.none way.0 way.1 way.2 in
      let y = stopper_names n i way.0 way.1 l (λ z. omega arith) in
      let p = stops_picked y.0 (y.1, (way.0, way.1, way.2, y.2)) in
      (lowest_least test (unfit n) 0 l y.0 filed p.0 p.1).0

  pub number_named : (k : ℕ) → k ≡ lowest test l → Routed n (stopper n l) s d (Err (NoRoute.NoClearPath i k))
  number_named k e = (
    stuck.none,
    stuck.named,
    (number_by_notices n l filed s d i k).1
        (lowest_number_as picked_stops stops_picked ((lowest_exactly test (unfit n) k l filed).1 (sym e, let h = some_picked in omega arith))),
  )
