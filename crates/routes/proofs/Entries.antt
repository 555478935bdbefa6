-- Theorems over route: what its answers say, and that its promise leaves no second answer.
use Rattle.std.specs.Prelude.{Ok, Err}
use Rattle.routes.specs.declared.NoRoute.{NoRoute}
use mathlib.Core.Path.{◌≡◌, refl, ap, ◌∙◌}
use mathlib.Core.Bool.{false}
use mathlib.Core.List.{List, [], ◌∷◌}
use mathlib.Core.Logic.{⊎_elim, ◌↔◌}
use Prim.Native.Nat.{ℕ, ◌≤◌, ◌<◌}
use borrow.Author.Tests.{lt-leb, leb-false}
use lib.ListN.{get_or}
use Rattle.table.specs.declared.Refusal.{Refusal}
use Rattle.table.specs.Numbers.{number_of}
use Rattle.table.specs.Reply.{Reply, refused}
use Rattle.table.specs.Checks.{Given, Passed, Passed.none, Passed.passes, ◌when◌, ◌not_below◌, numbers}
use Rattle.table.proofs.Checks.{given_once, given_or_passed, not_given_and_passed, passed_nth, neither, neither_of, zero_one}
use Rattle.fabric.specs.Labels.{size}
use Rattle.notices.proofs.Classes.{class_within}
use Rattle.book.specs.declared.Book.{Book}
use Rattle.book.specs.Standing.{unsound, counted_stops}
use Rattle.paths.specs.Clear.{ClearPath, StageNamed}
use Rattle.paths.specs.Ways.{NumberNamed}
use Rattle.routes.specs.Routed.{route_says, Routed, route_checks, Routes, Found}
use Rattle.routes.proofs.Once.{found_tells, routed_once, eleven_routed}

-- "Route (book, source, destination, choice): 16, 10, 5", the checks before the route
pub route_order : (b : Book) (s d choice : ℕ) → numbers (route_checks b s d choice) ≡ 16 ∷ 10 ∷ 5 ∷ []
route_order b s d choice = refl

-- 10: "a source or a destination that is N or more"; 5: a choice above 1
pub route_lets_pass : (b : Book) (s d choice : ℕ) → Passed (route_checks b s d choice) ↔ ((unsound b ≡ false) × (s < size b.n) × (d < size b.n) × (choice ≤ 1))
route_lets_pass b s d choice = (
  (λ p.
      let ok : (k : ℕ) → (get_or (route_checks b s d choice) k (0 when false)).holds ≡ false = λ k. passed_nth (route_checks b s d choice) k p in
      let labels = neither (s not_below size b.n) (d not_below size b.n) (ok 1) in
      (ok 0, leb-false (size b.n) s labels.0, leb-false (size b.n) d labels.1, (class_within choice).0 (ok 2))),
  (λ w. passes w.0 (passes (neither_of _ _ (lt-leb (size b.n) s w.1) (lt-leb (size b.n) d w.2)) (passes ((class_within choice).1 w.3) none))),
)

-- a route meets its promise where it refuses by the number that its checks give, and where it passes them and its answer is what
-- docs/RULES.md says of paths
module _ (b : Book) (s d choice : ℕ) where
  pub route_refuses : (r : Refusal) → Given (number_of r) (route_checks b s d choice) → Routes b s d choice (Err (NoRoute.Refused r))
  route_refuses r g =
      record {
        refuses = λ k h. ap refused (given_once (number_of r) k (route_checks b s d choice) g h);
        routes = λ p. not_given_and_passed (number_of r) (route_checks b s d choice) g p;
      }

  pub route_passes : (a : Found) → Passed (route_checks b s d choice) → Routed b.n (counted_stops choice b) s d a → Routes b s d choice a
  route_passes a p w = record { refuses = λ k g. absurd (not_given_and_passed k (route_checks b s d choice) g p); routes = λ q. w }

-- no second answer
pub route_once : (b : Book) (s d choice : ℕ) (x y : Found) → Routes b s d choice x → Routes b s d choice y → x ≡ y
route_once b s d choice x y p q =
    ⊎_elim
    (λ g. found_tells x y g.0 (p.refuses g.0 g.1) (q.refuses g.0 g.1))
    (λ w. routed_once b.n (counted_stops choice b) s d x y (p.routes w) (q.routes w))
    (given_or_passed (route_checks b s d choice))

-- what a route's answer says: a tag exactly when a clear path exists, and "no path is clear" exactly when none does
module _ (b : Book) (s d choice : ℕ) (passed : Passed (route_checks b s d choice)) (a : Found) (answers : Routes b s d choice a) where
  pub tag_when_some : (cs : List ℕ) → ClearPath b.n (counted_stops choice b) s d cs → (t : ℕ) × (a ≡ Ok t)
  tag_when_some cs path = go a (answers.routes passed)
    where
      go : (x : Found) → Routed b.n (counted_stops choice b) s d x → (t : ℕ) × (x ≡ Ok t)
      go (Ok t) w = (t, refl)
      go (Err (NoRoute.NoClearPath i k)) w = absurd (w.0 cs path)
      go (Err (NoRoute.Refused r)) w = absurd w

  pub none_when_none : ((cs : List ℕ) → ClearPath b.n (counted_stops choice b) s d cs → ⊥) → (i : ℕ) × (k : ℕ) × (a ≡ Err (NoRoute.NoClearPath i k))
  none_when_none empty = go a (answers.routes passed)
    where
      go : (x : Found) → Routed b.n (counted_stops choice b) s d x → (i : ℕ) × (k : ℕ) × (x ≡ Err (NoRoute.NoClearPath i k))
      go (Ok t) w = absurd (empty w.0 w.1.clear_path)
      go (Err (NoRoute.NoClearPath i k)) w = (i, k, refl)
      go (Err (NoRoute.Refused r)) w = absurd w

  -- 11: "no path is clear, with the stage named", and the number
  pub eleven_exactly : (i k : ℕ) → (route_says a ≡ Reply.refused_with 11 (i ∷ k ∷ []))
      ↔ (((cs : List ℕ) → ClearPath b.n (counted_stops choice b) s d cs → ⊥) × StageNamed b.n (counted_stops choice b) s d i × NumberNamed b.n (counted_stops choice b) s d i k)
  eleven_exactly i k = eleven_routed b.n (counted_stops choice b) s d a (answers.routes passed) i k

  -- "A route answers the normal tag of the first clear path": accepted with a tag exactly when it is the normal tag of the first clear
  -- path over the links that counted notices stop, which is `Routed` at `Tag`
  pub tag_exactly : (t : ℕ) → (route_says a ≡ Reply.accepted (t ∷ [])) ↔ Routed b.n (counted_stops choice b) s d (Ok t)
  tag_exactly t = (
    told a (answers.routes passed),
    λ w. ap route_says (routed_once b.n (counted_stops choice b) s d a (Ok t) (answers.routes passed) w),
  )
    where
      told : (x : Found) → Routed b.n (counted_stops choice b) s d x → route_says x ≡ Reply.accepted (t ∷ []) → Routed b.n (counted_stops choice b) s d (Ok t)
      told (Ok u) w e = let z : t ≡ u = cc in (w.0, w.1, z ∙ w.2)
      told (Err (NoRoute.NoClearPath i k)) w e = absurd (zero_one cc)
      told (Err (NoRoute.Refused r)) w e = absurd w
