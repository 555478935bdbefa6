-- docs/RULES.md, 'Classes': what each choice of a route is over. "all notices count, or the broken ones alone"
use mathlib.Core.Path.{◌≡◌, refl, sym, ap, subst, ◌∙◌}
use mathlib.Core.Bool.{false}
use mathlib.Core.List.{Memᴰ}
use mathlib.Core.Logic.{◌↔◌}
use Prim.Native.Nat.{ℕ, ◌≤◌}
use Rattle.table.specs.Checks.{Passed}
use Rattle.paths.specs.Clear.{Rule}
use Rattle.paths.specs.Ways.{NumberNamed}
use Rattle.notices.specs.declared.Notice.{Notice}
use Rattle.notices.proofs.Classes.{class_within}
use Rattle.standing.specs.Picked.{LowestNumber}
use Rattle.book.specs.declared.Book.{Book}
use Rattle.book.specs.Standing.{standing, book_of, unsound, Sound, stopper, stops_of, counted, counted_stops}
use Rattle.book.proofs.Filings.{sound_passes}
use Rattle.book.proofs.Counted.{all_counted_stand, none_busy, counted_filed, counted_sound, alone_counted}
use Rattle.routes.specs.Routed.{Routed, route_checks, Routes, StopsAWay, Found}
use Rattle.routes.proofs.Numbers.{number_by_notices}
use Rattle.routes.proofs.Alike.{same_counted_same_route}

-- "0, and all notices count": past its checks a route of choice 0 is what docs/RULES.md says of paths over all links that the book stops
pub all_counted_route : (b : Book) (s d : ℕ) (a : Found) → Passed (route_checks b s d 0) → Routes b s d 0 a → Routed b.n (stops_of b) s d a
all_counted_route b s d a p r =
    let same : ◌≡◌ {A = Rule} (counted_stops 0 b) (stops_of b) = ap (stopper b.n) (all_counted_stand b) in
    subst (λ (rule : Rule). Routed b.n rule s d a) same (r.routes p)

module _ (b : Book) (sound : Sound b) (s d : ℕ) (x y : Found) where
  sixteen_passed : unsound b ≡ false
  sixteen_passed = sound_passes b sound

  -- where no notice is busy, each choice is answered as choice 0 is
  pub none_busy_route : (choice : ℕ) → choice ≤ 1 → ((z : Notice) → Memᴰ z (standing b) → z.class ≡ 0) → Routes b s d choice x → Routes b s d 0 y → x ≡ y
  none_busy_route choice few broken =
      same_counted_same_route b b s d choice 0 x y sixteen_passed sixteen_passed refl ((class_within choice).1 few) (none_busy b choice broken ∙ sym (none_busy b 0 broken))

  -- "1, and the broken ones alone do": it is answered as a route over a book of the broken notices alone is, with either choice
  pub broken_alone_route : (choice : ℕ) → choice ≤ 1 → Routes b s d 1 x → Routes (book_of b.n (counted 1 b)) s d choice y → x ≡ y
  broken_alone_route choice few =
      same_counted_same_route b (book_of b.n (counted 1 b)) s d 1 choice x y sixteen_passed (sound_passes _ (counted_sound b 1 sound)) refl (sym ((class_within choice).1 few)) (sym (alone_counted b choice))

-- the number after `BY`, "stopped by a notice that counts": it is the lowest number of a counted notice that stops a way onward
pub number_by_counted : (b : Book) (s d choice i k : ℕ) → Sound b
    → NumberNamed b.n (counted_stops choice b) s d i k ↔ LowestNumber (StopsAWay b.n (counted choice b) s d i) k
number_by_counted b s d choice i k sound = number_by_notices b.n (counted choice b) (counted_filed b choice sound) s d i k
