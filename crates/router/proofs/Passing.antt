-- A route over a sound book passes 16, so 10 and 5 alone can refuse it; past them it is what crossing finds.
use Rattle.std.specs.Prelude.{Result, Err}
use mathlib.Core.Path.{◌≡◌, refl, subst}
use mathlib.Core.Bool.{true, false, ◌||◌}
use mathlib.Core.List.{[]}
use Prim.Native.Nat.{ℕ}
use Rattle.table.specs.declared.Refusal.{Refusal}
use Rattle.table.specs.Checks.{Given.here, Given.later, Passed.none, Passed.passes, ◌below◌, ◌not_below◌}
use Rattle.table.proofs.Checks.{neither, neither_of}
use Rattle.fabric.specs.Labels.{size, outside_sizes}
use Rattle.paths.specs.Clear.{Rule}
use Rattle.frontier.specs.declared.ways.Columns.{Columns}
use Rattle.frontier.specs.declared.links.Stops.{Stops}
use Rattle.frontier.specs.Columns.{ColumnsOf}
use Rattle.frontier.specs.Stops.{StopsUnder}
use Rattle.notices.specs.Notices.{unfit}
use Rattle.notices.specs.Classes.{bad_class, counts}
use Rattle.standing.specs.Rising.{Filed, misfiled, littered}
use Rattle.standing.proofs.Filings.{filed_if}
use Rattle.standing.proofs.Members.{those_filed}
use Rattle.book.specs.declared.Book.{Book}
use Rattle.book.specs.Standing.{standing, unused, unsound, counted, counted_stops}
use Rattle.routes.specs.declared.NoRoute.{NoRoute}
use Rattle.routes.specs.Routed.{Found, Routed, Routes}
use Rattle.routes.proofs.Entries.{route_refuses, route_passes}
use Rattle.crossing.specs.declared.Stuck.{Stuck}
use Rattle.crossing.specs.Crossed.{CrossedBy}
use Rattle.router.specs.Told.{Told}
use Rattle.router.proofs.Telling.{told_all}

module _ (b : Book) (s d choice : ℕ) (sound : unsound b ≡ false) (source : (s not_below size b.n) ≡ false) (destination : (d not_below size b.n) ≡ false) where
  pub refused_choice : bad_class choice ≡ true → Routes b s d choice (Err (NoRoute.Refused Refusal.Field))
  refused_choice e = route_refuses b s d choice Refusal.Field (later sound (later (neither_of _ _ source destination) (here e refl)))

  pub found_route : bad_class choice ≡ false → (a : Found) → Routed b.n (counted_stops choice b) s d a → Routes b s d choice a
  found_route few a w = route_passes b s d choice a (passes sound (passes (neither_of _ _ source destination) (passes few none))) w

-- a sound book's notices stand in order, and each is such as filing accepts; and so it is of those that a route counts
pub standing_filed : (b : Book) → unsound b ≡ false → Filed (unfit b.n) 0 (standing b)
standing_filed b e =
    let tests = neither (outside_sizes b.n || 48 below b.count || misfiled (unfit b.n) 0 (standing b)) (littered (unused b)) e in
    filed_if (unfit b.n) 0 (standing b) (neither (outside_sizes b.n || 48 below b.count) (misfiled (unfit b.n) 0 (standing b)) tests.0).1

pub counted_filed : (b : Book) (choice : ℕ) → unsound b ≡ false → Filed (unfit b.n) 0 (counted choice b)
counted_filed b choice e = those_filed (counts choice) (unfit b.n) 0 (standing b) (standing_filed b e)

-- what crossing finds under any rule that stops those links, it finds under the counted notices'
pub crossed_counted : (b : Book) (s d choice : ℕ) (of : Columns) (stops : Stops) → unsound b ≡ false → ColumnsOf b.n s d of → Told b.n of (counted choice b) [] stops
    → {crossed seen : Result ℕ Stuck} → ((rule : Rule) → StopsUnder b.n rule s d stops → CrossedBy b.n rule s d crossed) → crossed ≡ seen
    → CrossedBy b.n (counted_stops choice b) s d seen
crossed_counted b s d choice of stops sound columns told crosses e =
    subst (CrossedBy b.n (counted_stops choice b) s d) e
    (crosses (counted_stops choice b) (told_all b.n of (counted choice b) stops told s d (counted_filed b choice sound) columns))
