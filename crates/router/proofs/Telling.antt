-- Through a list of notices, one after the other: what is stopped at its end is what the book stops.
use mathlib.Core.Path.{◌≡◌, refl, sym, ap, ◌∙◌}
use mathlib.Core.Bool.{Bool, true, false, cond, ◌||◌}
use mathlib.Core.List.{List, [], ◌∷◌}
use mathlib.Core.Logic.{◌⊎◌, inl, inr, ⊎_elim}
use Prim.Native.Nat.{ℕ, zero, suc, ◌+◌, ◌*◌, ◌/◌, ◌%◌, ◌^◌, ◌≤◌, ◌<◌}
use native.Mathlib.Numerals.{add-one}
use native.Mathlib.Omega.{arith}
use lib.Dec.{eqb}
use Rattle.std.proofs.lemmas.List.{drop_all}
use lib.ListN.{length, drop, get_or}
use lib.Pow.{pow_pos, high as high_part}
use Rattle.fabric.specs.Labels.{size}
use Rattle.fabric.specs.Links.{lands}
use Rattle.fabric.proofs.Links.{lands_lt}
use Rattle.frontier.specs.declared.ways.Columns.{Columns}
use Rattle.frontier.specs.declared.links.Stops.{Stops}
use Rattle.frontier.specs.Columns.{high, low, high_right, straight_at, fork_at, ColumnsOf}
use Rattle.frontier.specs.Stops.{StopsAt, has, set_at, stopping, none_stopped, StopsUnder}
use Rattle.frontier.proofs.Pivots.{high_lt, high_straight, low_plus, low_minus, high_plus, high_minus, low_straight}
use Rattle.frontier.proofs.Sets.{none_has}
use Rattle.notices.specs.declared.Notice.{Notice}
use Rattle.notices.specs.Notices.{names, unfit}
use Rattle.notices.specs.Classes.{counts}
use Rattle.notices.proofs.Fit.{fit_class}
use Rattle.standing.specs.Picked.{those}
use Rattle.standing.specs.Rising.{Filed}
use Rattle.standing.proofs.Distinct.{at_place}
use Rattle.standing.proofs.Lowest.{lowest_tells}
use Rattle.standing.proofs.Members.{none_bad, those_filed}
use Rattle.standing.proofs.Reading.{next}
use Rattle.book.specs.Standing.{stopper}
use Rattle.named_links.specs.Named.{out_of, Ways, WithTarget}
use Rattle.router.specs.Told.{named, Told}

-- the notices of a list in order are such as filing accepts, so each is broken or busy
module _ (n : ℕ) (l : List Notice) (d : Notice) (i : ℕ) (filed : Filed (unfit n) 0 l) (inside : i < length l) where
  pub fit_at : unfit n (get_or l i d) ≡ false
  fit_at = none_bad (unfit n) 0 l (get_or l i d) filed (at_place d l i inside)

  pub class_at : (get_or l i d).class ≤ 1
  class_at = fit_class n (get_or l i d) fit_at

-- what a list in order names is what it stops
pub named_stops : (n k : ℕ) (l : List Notice) (i j c : ℕ) → Filed (unfit n) k l → stopping (stopper n l i j c) ≡ named n l i j c
named_stops n k l i j c filed = lowest_tells (λ x. names n x i j c) (unfit n) k l filed

-- the columns' two switches are labels, and their links lead to the next column's two
module _ (n s d : ℕ) (source : s < size n) where
  one_of_two : (i j : ℕ) → (j ≡ high n s d i) ⊎ (j ≡ low n s d i) → (j ≡ straight_at n s d i) ⊎ (j ≡ fork_at n s d i)
  one_of_two i j = go (high_right n s d i)
    where
      go : (right : Bool) → (j ≡ high n s d i) ⊎ (j ≡ low n s d i)
          → (j ≡ cond right (high n s d i) (low n s d i)) ⊎ (j ≡ cond right (low n s d i) (high n s d i))
      go true e = e
      go false e = ⊎_elim inr inl e

  link_ends : (i c : ℕ) → i < n → c < 3 → (right : Bool) → high_right n s d i ≡ right
      → let end : ℕ = lands n i c (cond (eqb c 0) (cond right (high n s d i) (low n s d i)) (cond right (low n s d i) (high n s d i))) in
      (end ≡ high n s d (suc i)) ⊎ (end ≡ low n s d (suc i))
  link_ends i zero h hc true e = inl (high_straight n s d source i h e)
  link_ends i zero h hc false e = inr (low_straight n s d source i h e)
  link_ends i (suc zero) h hc true e = inl (low_plus n s d source i h e)
  link_ends i (suc zero) h hc false e = inl (high_plus n s d source i h e)
  link_ends i (suc (suc zero)) h hc true e = inr (low_minus n s d source i h e)
  link_ends i (suc (suc zero)) h hc false e = inr (high_minus n s d source i h e)
  link_ends i (suc (suc (suc c))) h hc right e = absurd (omega arith)

  pub ways_of : (c : Columns) → ColumnsOf n s d c → Ways n c
  ways_of c of =
      record {
        label = λ i h. rw (of.at i (omega arith)).fork (label i (high_right n s d i));
        ends = λ i code h hc.
            let here = of.at i (omega arith) in
            let next = of.at (i + 1) (omega arith) in
            rw (here.fork, here.straight, next.fork, next.straight, add-one i)
            (one_of_two (suc i) _ (link_ends i code h hc (high_right n s d i) refl));
      }
    where
      label : (i : ℕ) (right : Bool) → cond right (low n s d i) (high n s d i) < size n
      label i true = lands_lt n i 2 (high n s d i) (high_lt n s d source i)
      label i false = high_lt n s d source i

or_turned : (a b c : Bool) → ((a || b) || c) ≡ (a || (b || c))
or_turned true b c = refl
or_turned false b c = refl

or_none : (a : Bool) → (a || false) ≡ a
or_none true = refl
or_none false = refl

none_here : (i c : ℕ) (b : Bool) → (has (set_at i none_stopped) c || b) ≡ b
none_here i c b =
    let e : 0 / 2 ^ (4 * i) ≡ 0 = ap (λ (x : ℕ). x / 2 ^ (4 * i)) {x = 0} {y = 0 * 2 ^ (4 * i) + 0} (omega arith) ∙ high_part 0 (4 * i) (pow_pos (4 * i)) in
    ap (λ (x : ℕ). has (x % 16) c || b) e ∙ ap (λ (a : Bool). a || b) (none_has c)

module _ (n : ℕ) (columns : Columns) (all : List Notice) where
  pub told_none : Filed (unfit n) 0 all → Told n columns all all none_stopped
  told_none filed = record { filed = (0, filed); all_named = λ i c h hc. none_here i c _ }

  -- one notice more
  pub told_more : (x : Notice) (rest : List Notice) (old new : Stops) → Told n columns all (x ∷ rest) old
      → WithTarget n columns x.target old new → Told n columns all rest new
  unfolding Filed
  told_more x rest old new told with =
      record {
        filed = (x.number, told.filed.1.2);
        all_named = λ i c h hc.
            let j : ℕ = out_of columns i c in
            ap (λ (b : Bool). b || named n rest i j c) (with.at i c h hc) ∙ or_turned (has (set_at i old) c) (names n x i j c) (named n rest i j c) ∙ told.all_named i c h hc;
      }

  -- at the list's end
  pub told_all : (w : Stops) → Told n columns all [] w → (s d : ℕ) → Filed (unfit n) 0 all
      → ColumnsOf n s d columns → StopsUnder n (stopper n all) s d w
  told_all w told s d filed of i h = let here = of.at i (omega arith) in same (ends 0 (omega arith) here.straight) (ends 1 (omega arith) here.fork) (ends 2 (omega arith) here.fork)
    where
      ends : (c : ℕ) → c < 3 → {j : ℕ} → out_of columns i c ≡ j → has (set_at i w) c ≡ stopping (stopper n all i j c)
      ends c hc e = sym (or_none _) ∙ told.all_named i c h hc ∙ sym (named_stops n 0 all i _ c filed) ∙ ap (λ (j : ℕ). stopping (stopper n all i j c)) e

      same : {a b c x y z : Bool} → a ≡ x → b ≡ y → c ≡ z
          → ◌≡◌ {A = StopsAt} (record { straight = a; plus = b; minus = c }) (record { straight = x; plus = y; minus = z })
      same ea eb ec = rw (ea, eb, ec)

-- through the notices of a list that are counted, from the one in place i on
module _ (n choice : ℕ) (columns : Columns) (l : List Notice) where
  abbrev from_place : ℕ → List Notice
  from_place i = those (counts choice) (drop i l)

  pub told_start : Filed (unfit n) 0 l → Told n columns (those (counts choice) l) (those (counts choice) l) none_stopped
  told_start filed = told_none n columns (those (counts choice) l) (those_filed (counts choice) (unfit n) 0 l filed)

  module _ {stops : Stops} (d : Notice) (i : ℕ) (inside : i < length l) (told : Told n columns (those (counts choice) l) (from_place i) stops) where
    pub told_with : {new : Stops} → counts choice (get_or l i d) ≡ true → WithTarget n columns (get_or l i d).target stops new
        → Told n columns (those (counts choice) l) (from_place (i + 1)) new
    told_with e with = told_more n columns (those (counts choice) l) (get_or l i d) (from_place (i + 1)) stops _ (rw (next l d i inside, e) at told) with

    pub told_without : counts choice (get_or l i d) ≡ false → Told n columns (those (counts choice) l) (from_place (i + 1)) stops
    told_without e = rw (next l d i inside, e) at told

  pub told_end : {stops : Stops} (i : ℕ) → length l ≤ i → Told n columns (those (counts choice) l) (from_place i) stops → Told n columns (those (counts choice) l) [] stops
  told_end i h told = rw (drop_all i l h) at told
