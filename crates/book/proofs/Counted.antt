-- docs/RULES.md, 'Classes': which standing notices a route counts, and what these stop.
use mathlib.Core.Path.{◌≡◌, sym, ap, subst, ◌∙◌}
use mathlib.Core.Bool.{true}
use mathlib.Core.List.{Memᴰ}
use mathlib.Core.Logic.{◌↔◌}
use Prim.Native.Nat.{ℕ, ◌≤◌}
use native.Mathlib.Omega.{arith}
use lib.ListN.{length-take}
use Rattle.notices.specs.declared.Notice.{Notice}
use Rattle.notices.specs.Notices.{unfit}
use Rattle.notices.specs.Classes.{counts}
use Rattle.notices.proofs.Classes.{all_counted, broken_counted, broken_always}
use Rattle.notices.proofs.Fit.{fit_class}
use Rattle.standing.specs.Picked.{LowestNumber, those}
use Rattle.standing.specs.Rising.{Filed}
use Rattle.standing.proofs.Picked.{those_exactly, those_all, those_length}
use Rattle.standing.proofs.Members.{none_bad, those_filed}
use Rattle.standing.proofs.Lowest.{lowest_number_as}
use Rattle.book.specs.declared.Book.{Book}
use Rattle.book.specs.Standing.{standing, book_of, Sound, StopsLink, stopper, stops_of, counted, counted_stops}
use Rattle.book.proofs.Filings.{standing_of, unused_of}
use Rattle.book.proofs.Stoppers.{stopper_exactly}

-- a notice that stands is broken or busy
pub class_held : (b : Book) → Sound b → (x : Notice) → Memᴰ x (standing b) → x.class ≤ 1
class_held b sound x stands = fit_class b.n x (none_bad (unfit b.n) 0 (standing b) x sound.filed stands)

module _ (b : Book) where
  -- "0, and all notices count"
  pub all_counted_stand : counted 0 b ≡ standing b
  all_counted_stand = those_all (counts 0) (standing b) (λ x m. all_counted x)

  -- "1, and the broken ones alone do"
  pub broken_counted_stand : (x : Notice) → Memᴰ x (counted 1 b) ↔ (Memᴰ x (standing b) × (x.class ≡ 0))
  broken_counted_stand x =
      let o = those_exactly (counts 1) x (standing b) in
      let p = broken_counted x in
      ((λ m. let w = o.0 m in (w.0, p.0 w.1)), (λ w. o.1 (w.0, p.1 w.1)))

  -- where none is busy, every choice counts all
  pub none_busy : (choice : ℕ) → ((x : Notice) → Memᴰ x (standing b) → x.class ≡ 0) → counted choice b ≡ standing b
  none_busy choice broken = those_all (counts choice) (standing b) (λ x m. broken_always x choice (broken x m))

  -- so the links that choice 0 finds stopped are those of the book
  pub counted_all : (i j c : ℕ) → counted_stops 0 b i j c ≡ stops_of b i j c
  counted_all i j c = ap (λ l. stopper b.n l i j c) all_counted_stand

  -- and those that choice 1 finds stopped are those of a book of the broken notices alone
  pub counted_alone : (i j c : ℕ) → counted_stops 1 b i j c ≡ stops_of (book_of b.n (counted 1 b)) i j c
  counted_alone i j c = ap (λ l. stopper b.n l i j c) (sym (standing_of b.n (counted 1 b)))

  -- what is counted stands by rising number, as all of them do
  pub counted_filed : (choice : ℕ) → Sound b → Filed (unfit b.n) 0 (counted choice b)
  counted_filed choice sound = those_filed (counts choice) (unfit b.n) 0 (standing b) sound.filed

  -- so they make a sound book of their own,
  pub counted_sound : (choice : ℕ) → Sound b → Sound (book_of b.n (counted choice b))
  counted_sound choice sound =
      let few = those_length (counts choice) (standing b) in
      let taken = length-take b.count b.notices in
      let fits = sound.fits in
      record {
        some = sound.some;
        few = sound.few;
        fits = omega arith;
        filed = subst (Filed (unfit b.n) 0) (sym (standing_of b.n (counted choice b))) (counted_filed choice sound);
        rest = unused_of b.n (counted choice b);
      }

  -- in which, made of the broken ones, every choice counts all
  pub alone_counted : (choice : ℕ) → counted choice (book_of b.n (counted 1 b)) ≡ counted 1 b
  alone_counted choice =
      ap (those (counts choice)) (standing_of b.n (counted 1 b))
      ∙ those_all (counts choice) (counted 1 b) (λ x m. broken_always x choice ((broken_counted_stand x).0 m).1)

  -- "stopped by a notice that counts": a standing one that is counted and names the link, and the lowest number of these
  pub counted_exactly : (choice i j c k : ℕ) → Sound b
      → LowestNumber (λ x. StopsLink b.n (standing b) i j c x × (counts choice x ≡ true)) k ↔ ((counted_stops choice b i j c ≡ k) × (1 ≤ k))
  counted_exactly choice i j c k sound =
      let o = stopper_exactly b.n i j c k (counted choice b) (counted_filed choice sound) in
      let those_of : (x : Notice) → Memᴰ x (counted choice b) ↔ (Memᴰ x (standing b) × (counts choice x ≡ true)) = λ x. those_exactly (counts choice) x (standing b) in (
        (λ w. o.0 (lowest_number_as (λ x p. ((those_of x).1 (p.0.0, p.1), p.0.1)) (λ x p. let m = (those_of x).0 p.0 in ((m.0, p.1), m.1)) w)),
        (λ e. lowest_number_as (λ x p. let m = (those_of x).0 p.0 in ((m.0, p.1), m.1)) (λ x p. ((those_of x).1 (p.0.0, p.1), p.0.1)) (o.1 e)),
      )
