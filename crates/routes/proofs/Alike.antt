-- What a route depends on: its tag or stage on which links are stopped, the number that it names on the notices.
use Rattle.std.specs.Prelude.{Ok, Err}
use Rattle.routes.specs.declared.NoRoute.{NoRoute}
use mathlib.Core.Path.{◌≡◌, refl, sym, ap, ap₂, subst, ◌∙◌}
use mathlib.Core.Bool.{Bool, false, ◌||◌}
use mathlib.Core.List.{List, [], ◌∷◌, Memᴰ}
use mathlib.Core.Logic.{⊎_elim, ◌↔◌}
use Prim.Native.Nat.{ℕ, suc, ◌+◌}
use native.Mathlib.Omega.{arith}
use lib.ListN.{length}
use Rattle.table.specs.Checks.{Given, Passed, ◌when◌, ◌not_below◌}
use Rattle.table.proofs.Checks.{given_or_passed}
use Rattle.fabric.specs.Labels.{size}
use Rattle.paths.specs.Clear.{Rule, Alike, ClearPath, Onward, StageNamed}
use Rattle.paths.proofs.Ways.{way_as}
use Rattle.paths.proofs.Alike.{alike_clear, alike_by_any_number}
use Rattle.paths.proofs.Named.{stage_once}
use Rattle.notices.specs.declared.Notice.{Notice}
use Rattle.notices.specs.Notices.{unfit}
use Rattle.notices.specs.Classes.{bad_class, counts}
use Rattle.standing.specs.Picked.{those}
use Rattle.standing.specs.Rising.{Filed}
use Rattle.standing.proofs.Members.{same_notices}
use Rattle.book.specs.declared.Book.{Book}
use Rattle.book.specs.Standing.{standing, unsound, stopper, counted, counted_stops}
use Rattle.book.proofs.Filings.{sound_if}
use Rattle.routes.specs.Routed.{Routed, route_checks, Routes, SameTagOrStage, Found}
use Rattle.routes.proofs.Once.{found_tells, routed_once, same_itself}

module _ (n s d : ℕ) (f g : Rule) (same : Alike f g) where
  clear_alike : (cs : List ℕ) → ClearPath n f s d cs → ClearPath n g s d cs
  clear_alike cs p = record { path = p.path; clear = (alike_clear f g same n s cs).0 p.clear }

  clear_back : (cs : List ℕ) → ClearPath n g s d cs → ClearPath n f s d cs
  clear_back cs p = record { path = p.path; clear = (alike_clear f g same n s cs).1 p.clear }

  onward_alike : (k : ℕ) (cs : List ℕ) → Onward n f s d k cs → Onward n g s d k cs
  onward_alike k cs w = record { links = w.links; codes = w.codes; clear = (alike_clear f g same n s cs).0 w.clear; agrees = w.agrees }

  onward_back : (k : ℕ) (cs : List ℕ) → Onward n g s d k cs → Onward n f s d k cs
  onward_back k cs w = record { links = w.links; codes = w.codes; clear = (alike_clear f g same n s cs).1 w.clear; agrees = w.agrees }

  tag_alike : (t : ℕ) → Routed n f s d (Ok t) → Routed n g s d (Ok t)
  tag_alike t w = (w.0, record { clear_path = clear_alike w.0 w.1.clear_path; first = λ ds q e. w.1.first ds (clear_back ds q) e }, w.2)

  stage_alike : (i : ℕ) → StageNamed n f s d i → StageNamed n g s d i
  stage_alike i w =
      record {
        none = λ cs q. w.none cs (onward_back (suc i) cs q);
        least = λ k gone. w.least k (λ cs q. gone cs (onward_alike (suc k) cs q));
      }

  -- the same stopped links: the same tag, or the same stage
  pub routed_alike : (a b : Found) → Routed n f s d a → Routed n g s d b → SameTagOrStage a b
  routed_alike (Ok t) (Ok u) p q =
      same_itself (Ok t) (Ok u) (routed_once n g s d (Ok t) (Ok u) (tag_alike t p) q)
  routed_alike (Ok t) (Err (NoRoute.NoClearPath j m)) p q = q.0 p.0 (clear_alike p.0 p.1.clear_path)
  routed_alike (Ok t) (Err (NoRoute.Refused r)) p q = q
  routed_alike (Err (NoRoute.NoClearPath i k)) (Ok u) p q = p.0 q.0 (clear_back q.0 q.1.clear_path)
  routed_alike (Err (NoRoute.NoClearPath i k)) (Err (NoRoute.NoClearPath j m)) p q = stage_once n g s d i j (stage_alike i p.1) q.1
  routed_alike (Err (NoRoute.NoClearPath i k)) (Err (NoRoute.Refused r)) p q = q
  routed_alike (Err (NoRoute.Refused r)) b p q = absurd p

-- and the number may differ: it is that of the rule
module _ (n s d : ℕ) (f : Rule) where
  abbrev doubled : Rule
  doubled i j c = f i j c + f i j c

  pub number_follows_rule : (i k : ℕ) → Routed n f s d (Err (NoRoute.NoClearPath i k)) → Routed n doubled s d (Err (NoRoute.NoClearPath i (k + k)))
  number_follows_rule i k w =
      let named = w.2 in (
        (λ cs q. w.0 cs (clear_back n s d f doubled (alike_by_any_number f) cs q)),
        stage_alike n s d f doubled (alike_by_any_number f) i w.1,
        record {
          switch = named.switch;
          code = named.code;
          way = way_as (λ cs. (alike_clear f doubled (alike_by_any_number f) n s cs).0) named.way;
          stopped = let e = named.stopped in omega arith;
          some = let l = named.some in omega arith;
          least = λ j c v l. let m = named.least j c (way_as (λ cs. (alike_clear f doubled (alike_by_any_number f) n s cs).1) v) (omega arith) in omega arith;
        },
      )

-- two sound books of one size have one list of checks
same_checks : (b c : Book) (s d p q : ℕ) → unsound b ≡ false → unsound c ≡ false → b.n ≡ c.n → bad_class p ≡ bad_class q → route_checks b s d p ≡ route_checks c s d q
same_checks b c s d p q sb sc size_same choices =
    ap₂ (λ (u : Bool) (m : ℕ). (16 when u) ∷ (10 when (s not_below size m || d not_below size m)) ∷ (5 when bad_class p) ∷ []) (sb ∙ sym sc) size_same
    ∙ ap (λ (bad : Bool). (16 when unsound c) ∷ (10 when (s not_below size c.n || d not_below size c.n)) ∷ (5 when bad) ∷ []) choices

-- over books, for each choice: the same stopped links give the same tag, or the same stage
pub same_stops_same_route : (b c : Book) (s d choice : ℕ) (x y : Found) → unsound b ≡ false → unsound c ≡ false → b.n ≡ c.n
    → Alike (counted_stops choice b) (counted_stops choice c) → Routes b s d choice x → Routes c s d choice y → SameTagOrStage x y
same_stops_same_route b c s d choice x y sb sc size_same same p q =
    ⊎_elim
    (λ g. same_itself x y (found_tells x y g.0 (p.refuses g.0 g.1) (q.refuses g.0 (subst (Given g.0) checks g.1))))
    (λ w.
    let r : Routed c.n (counted_stops choice b) s d x = subst (λ (m : ℕ). Routed m (counted_stops choice b) s d x) size_same (p.routes w) in
    routed_alike c.n s d (counted_stops choice b) (counted_stops choice c) same x y r (q.routes (subst Passed checks w)))
    (given_or_passed (route_checks b s d choice))
  where
    checks : route_checks b s d choice ≡ route_checks c s d choice
    checks = same_checks b c s d choice choice sb sc size_same refl

-- the same counted notices give the same answer, all of it, whatever the two choices are
pub same_counted_same_route : (b c : Book) (s d u v : ℕ) (x y : Found) → unsound b ≡ false → unsound c ≡ false → b.n ≡ c.n → bad_class u ≡ bad_class v
    → counted u b ≡ counted v c → Routes b s d u x → Routes c s d v y → x ≡ y
same_counted_same_route b c s d u v x y sb sc size_same choices same p q =
    ⊎_elim
    (λ g. found_tells x y g.0 (p.refuses g.0 g.1) (q.refuses g.0 (subst (Given g.0) checks g.1)))
    (λ w. routed_once c.n (counted_stops v c) s d x y (over (p.routes w)) (q.routes (subst Passed checks w)))
    (given_or_passed (route_checks b s d u))
  where
    checks : route_checks b s d u ≡ route_checks c s d v
    checks = same_checks b c s d u v sb sc size_same choices

    over : Routed b.n (counted_stops u b) s d x → Routed c.n (counted_stops v c) s d x
    over r = subst (λ (l : List Notice). Routed c.n (stopper c.n l) s d x) same (subst (λ (m : ℕ). Routed m (stopper m (counted u b)) s d x) size_same r)

-- so do the same standing notices, for each choice
pub same_notices_same_route : (b c : Book) (s d choice : ℕ) (x y : Found) → length b.notices ≡ 48 → length c.notices ≡ 48
    → unsound b ≡ false → unsound c ≡ false → b.n ≡ c.n → ((z : Notice) → Memᴰ z (standing b) ↔ Memᴰ z (standing c))
    → Routes b s d choice x → Routes c s d choice y → x ≡ y
same_notices_same_route b c s d choice x y pb pc sb sc size_same same =
    same_counted_same_route b c s d choice choice x y sb sc size_same refl (ap (those (counts choice)) stand)
  where
    filed : Filed (unfit c.n) 0 (standing b)
    filed = subst (λ (m : ℕ). Filed (unfit m) 0 (standing b)) size_same (sound_if b pb sb).filed

    stand : standing b ≡ standing c
    stand = same_notices (unfit c.n) (standing c) (standing b) 0 0 (sound_if c pc sc).filed filed (λ z. (same z).0) (λ z. (same z).1)
