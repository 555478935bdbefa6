-- No controller of the kinds that docs/RULES.md excludes meets the demand that excludes it: one over our books whose routes, or whose
-- filings, are those promised; and for demand 3's first half one over books of any kind that stops what is named along its own runs.
use Rattle.std.specs.Prelude.{Ok, Err, Some, None}
use Rattle.routes.specs.declared.NoRoute.{NoRoute}
use mathlib.Core.Path.{◌≡◌, refl, sym, ap, subst, ◌∙◌}
use mathlib.Core.Bool.{false}
use mathlib.Core.List.{List, [], ◌∷◌, ◌++◌, append_assoc}
use mathlib.Core.Logic.{⊎_elim}
use Prim.Native.Nat.{ℕ, zero, suc, ◌≤◌, ◌<◌}
use native.Mathlib.Omega.{arith}
use Rattle.table.specs.Numbers.{number_of}
use Rattle.table.specs.Reply.{Reply.accepted, refused, answer_says}
use Rattle.table.specs.Checks.{Passed}
use Rattle.table.proofs.Checks.{given_or_passed, zero_one}
use Rattle.fabric.specs.Labels.{outside_sizes}
use Rattle.fabric.specs.Walks.{walked}
use Rattle.scheme.specs.Tags.{steered}
use Rattle.notices.specs.declared.Notice.{Notice}
use Rattle.notices.specs.declared.Target.TheVariants.{Links}
use Rattle.book.specs.declared.Book.{Book}
use Rattle.questions.specs.Entries.{Link}
use Rattle.book.specs.Standing.{counted_stops}
use Rattle.standing.specs.Picked.{some, lowest, those}
use Rattle.standing.specs.Rising.{in_places, insert, misfiled, littered}
use Rattle.book.specs.Entries.{opened}
use Rattle.changes.specs.Runs.{Change, run}
use Rattle.routes.specs.Routed.{Routed, route_checks, Routes, Found}
use Rattle.routes.proofs.Entries.{route_once}
use Rattle.promises.specs.Examples.{links}
use Rattle.promises.specs.Controllers.{Controller, FilesAsPromised, RoutesAsPromised, SaysElevenAlways, GivesTagZeroAlways, InventsAStage, RefusesEveryFiling, LooksOnlyWhereItStands, GivesUp, Accepts, own_run, ended, NeverWithdrawn, Holds, Named, IsLink, StopsWhatIsNamed, SameLinks, AcceptsAfter, FilesNothing, StoresTheFirstOnly, OpensForBoth, PlusAndMinusOneLink}
use Rattle.promises.proofs.Examples.{row_holds, broken_only_rows}

-- a route that names a stage has passed 16, 10 and 5
none_routed : (b : Book) (s d choice i k : ℕ) → Routes b s d choice (Err (NoRoute.NoClearPath i k)) → Routed b.n (counted_stops choice b) s d (Err (NoRoute.NoClearPath i k))
none_routed b s d choice i k p = ⊎_elim (λ g. let e = p.refuses g.0 g.1 in absurd (zero_one cc)) p.routes (given_or_passed (route_checks b s d choice))

pub tag_passed : (b : Book) (s d choice t : ℕ) → Routes b s d choice (Ok t) → Passed (route_checks b s d choice)
tag_passed b s d choice t p = ⊎_elim (λ g. let e = p.refuses g.0 g.1 in absurd (zero_one cc)) (λ w. w) (given_or_passed (route_checks b s d choice))

-- the empty book of example 1, that of example 9, and that of example 6
abbrev pub empty : Book
empty = run [] (opened 3)

abbrev small : Book
small = run [] (opened 1)

abbrev turned : Book
turned = run (links 1 1 0 1 ∷ []) (opened 3)

-- what they answer they answer with each choice, since no notice is busy
each_choice : (P : ℕ → Type 0) → P 0 → P 1 → (choice : ℕ) → choice ≤ 1 → P choice
each_choice P all broken zero few = all
each_choice P all broken (suc zero) few = broken
each_choice P all broken (suc (suc k)) few = absurd (omega arith)

first_row : (choice : ℕ) → choice ≤ 1 → Routes empty 1 0 choice (Ok 0)
first_row = each_choice (λ q. Routes empty 1 0 q (Ok 0)) (row_holds 0).1 broken_only_rows.0

small_row : (choice : ℕ) → choice ≤ 1 → Routes small 0 1 choice (Ok 1)
small_row = each_choice (λ q. Routes small 0 1 q (Ok 1)) (row_holds 8).1 broken_only_rows.1

turned_row : (choice : ℕ) → choice ≤ 1 → Routes turned 1 0 choice (Ok 8)
turned_row = each_choice (λ q. Routes turned 1 0 q (Ok 8)) (row_holds 5).1 broken_only_rows.2

-- no link of the source is stopped in the two books that differ, whatever is counted
none_at_source : (choice : ℕ) → choice ≤ 1 → (c : ℕ) → c < 3 → (counted_stops choice empty 0 1 c ≡ 0) × (counted_stops choice turned 0 1 c ≡ 0)
unfolding run in_places insert misfiled
none_at_source zero few zero h = (refl, refl)
none_at_source zero few (suc zero) h = (refl, refl)
none_at_source zero few (suc (suc zero)) h = (refl, refl)
none_at_source zero few (suc (suc (suc c))) h = absurd (omega arith)
none_at_source (suc zero) few zero h = (refl, refl)
none_at_source (suc zero) few (suc zero) h = (refl, refl)
none_at_source (suc zero) few (suc (suc zero)) h = (refl, refl)
none_at_source (suc zero) few (suc (suc (suc c))) h = absurd (omega arith)
none_at_source (suc (suc k)) few c h = absurd (omega arith)

-- by demand 2, whichever choice the controller is bad at
module _ (c : Controller Book) (routes : RoutesAsPromised c) (choice : ℕ) (few : choice ≤ 1) where
  -- "one whose every route is refused with 11"
  pub not_eleven_always : SaysElevenAlways c choice → ⊥
  not_eleven_always says =
      let right = first_row choice few in
      let e = says empty 1 0 (tag_passed empty 1 0 choice 0 right) in
      let f : ◌≡◌ {A = Found} (Err (NoRoute.NoClearPath e.0 e.1)) (Ok 0) = sym e.2 ∙ route_once empty 1 0 choice _ _ (routes empty 1 0 choice) right in
      zero_one cc

  -- "one whose every tag is 0"
  pub not_tag_zero_always : GivesTagZeroAlways c choice → ⊥
  not_tag_zero_always gives =
      let e : ◌≡◌ {A = ℕ} 1 0 = gives small 0 1 1 (route_once small 0 1 choice _ _ (routes small 0 1 choice) (small_row choice few)) in
      omega arith

  -- "The other arm of a fork is tried only at the switch whose link is stopped. For a stopped straight link the message has to turn
  -- at an earlier stage.": examples 1 and 6 turn at switch 1 of stage 0, whose own links are clear in both
  pub not_looking_only_where_it_stands : LooksOnlyWhereItStands c choice → ⊥
  unfolding run in_places insert misfiled steered walked
  not_looking_only_where_it_stands w =
      let clear : (k : ℕ) → k < 3 → (counted_stops choice empty 0 1 k ≡ 0) × (counted_stops choice turned 0 1 k ≡ 0) = none_at_source choice few in
      let minus = w.chosen empty 1 0 0 0 (route_once empty 1 0 choice _ _ (routes empty 1 0 choice) (first_row choice few)) (omega arith) in
      let plus = w.chosen turned 1 0 8 0 (route_once turned 1 0 choice _ _ (routes turned 1 0 choice) (turned_row choice few)) (omega arith) in
      let chosen : ℕ → ℕ → ℕ → ℕ = w.choose 3 1 0 0 1 in
      let one : ◌≡◌ {A = ℕ} 2 (chosen 0 0 0) = minus ∙ at_zero chosen (clear 0 (omega arith)).0 (clear 1 (omega arith)).0 (clear 2 (omega arith)).0 in
      let two : ◌≡◌ {A = ℕ} 1 (chosen 0 0 0) = plus ∙ at_zero chosen (clear 0 (omega arith)).1 (clear 1 (omega arith)).1 (clear 2 (omega arith)).1 in
      let z : ◌≡◌ {A = ℕ} 2 1 = one ∙ sym two in
      omega arith
    where
      at_zero : (f : ℕ → ℕ → ℕ → ℕ) {x y z : ℕ} → x ≡ 0 → y ≡ 0 → z ≡ 0 → f x y z ≡ f 0 0 0
      at_zero f p q r = rw (p, q, r)

-- and these wherever they happen
module _ (c : Controller Book) (routes : RoutesAsPromised c) where
  -- what it answers where it names a stage is what is promised of paths
  stuck : (b : Book) (s d choice i k : ℕ) → c.route b s d choice ≡ Err (NoRoute.NoClearPath i k) → Routed b.n (counted_stops choice b) s d (Err (NoRoute.NoClearPath i k))
  stuck b s d choice i k e = none_routed b s d choice i k (subst (Routes b s d choice) e (routes b s d choice))

  -- "one that makes up the stage it names"
  pub not_an_invented_stage : InventsAStage c → ⊥
  not_an_invented_stage w = w.invented (stuck w.book w.source w.destination w.choice w.stage w.number w.answers).1

  -- "No path is reported after one turn back that failed."
  pub not_giving_up : GivesUp c → ⊥
  not_giving_up w = (stuck w.book w.source w.destination w.choice w.stage w.number w.answers).0 w.steps w.clear

-- by demand 1 with the table: "one that accepts no filing"
pub not_every_filing_refused : (c : Controller Book) → FilesAsPromised c → RefusesEveryFiling c → ⊥
unfolding run in_places insert misfiled
not_every_filing_refused c files refuses =
    let x : Notice = record { number = 2; target = Links 1 2 4; class = 0 } in
    let w = refuses empty x in
    let e : refused (number_of w.0) ≡ accepted [] = ap answer_says (sym w.1) ∙ (files empty x).says in
    zero_one cc

-- by demand 3's first half
module _ {B : Type 0} (c : Controller B) (meets : StopsWhatIsNamed c) where
  own_on : (before later : List Change) (b : B) → own_run c (before ++ later) b ≡ own_run c later (own_run c before b)
  unfolding own_run
  own_on [] later b = refl
  own_on (a ∷ rest) later b = own_on rest later (c.leaves a b)

  -- no link is both clear and stopped
  apart : {r : Link} {k : ℕ} → r ≡ Ok None → r ≡ Ok (Some k) → ⊥
  apart e f = zero_one cc

  -- what is named is not clear, and what is not is clear
  named_stopped : (n : ℕ) → outside_sizes n ≡ false → (changes : List Change) (i j code : ℕ) → IsLink c n i j code → Named c n changes i j code
      → c.link (ended c n changes) i j code ≡ Ok None → ⊥
  named_stopped n legal changes i j code link w e = ⊎_elim (λ p. p.1 w) (λ p. apart e p.1) (meets n legal changes i j code link)

  unnamed_clear : (n : ℕ) → outside_sizes n ≡ false → (changes : List Change) (i j code : ℕ) → IsLink c n i j code → (Named c n changes i j code → ⊥)
      → c.link (ended c n changes) i j code ≡ Ok None
  unnamed_clear n legal changes i j code link h = ⊎_elim (λ p. p.0) (λ p. absurd (h (p.2.notice, p.2.among))) (meets n legal changes i j code link)

  -- a filing that is accepted after a run stands
  filed_holds : (n : ℕ) (changes : List Change) (x : Notice) → Accepts c (Change.file x) (ended c n changes) → Holds c n (changes ++ Change.file x ∷ []) x
  unfolding NeverWithdrawn
  filed_holds n changes x e = record { before = changes; later = []; order = refl; accepted = e; kept = tt }

  -- so an accepted filing that names a clear link changes what the link test says
  filing_shows : (n : ℕ) → outside_sizes n ≡ false → (changes : List Change) (x : Notice) → AcceptsAfter c n changes x
      → SameLinks c (c.leaves (Change.file x) (ended c n changes)) (ended c n changes) → ⊥
  unfolding own_run
  filing_shows n legal changes x w same =
      let then : ended c n (changes ++ Change.file x ∷ []) ≡ c.leaves (Change.file x) (ended c n changes) = own_on changes (Change.file x ∷ []) (c.opens n) in
      named_stopped n legal (changes ++ Change.file x ∷ []) w.stage w.switch w.code w.link (x, (filed_holds n changes x w.accepts, w.names))
      (ap (λ (b : B). c.link b w.stage w.switch w.code) then
      ∙ (same w.stage w.switch w.code).1 (unnamed_clear n legal changes w.stage w.switch w.code w.link w.unnamed))

  -- "one that files without effect"
  pub not_filing_nothing : FilesNothing c → ⊥
  not_filing_nothing w = filing_shows w.n w.legal [] w.notice w.acknowledges (w.nothing (ended c w.n []) w.notice)

  -- "one that keeps the first filing and only acknowledges the rest"
  pub not_the_first_only : StoresTheFirstOnly c → ⊥
  not_the_first_only w = filing_shows w.n w.legal w.changes w.later w.acknowledges (w.nothing w.later w.acknowledges.accepts)

  -- a change that withdraws another number leaves a notice standing
  never_more : (k : ℕ) (a : Change) → (a ≡ Change.withdraw k → ⊥) → (l : List Change) (b : B) → NeverWithdrawn c k l b → NeverWithdrawn c k (l ++ a ∷ []) b
  unfolding NeverWithdrawn
  never_more k a h [] b w = (λ e q. h e, tt)
  never_more k a h (d ∷ l) b w = (w.0, never_more k a h l (c.leaves d b) w.1)

  still_holds : (n : ℕ) (changes : List Change) (x : Notice) (a : Change) → (a ≡ Change.withdraw x.number → ⊥) → Holds c n changes x → Holds c n (changes ++ a ∷ []) x
  still_holds n changes x a h w =
      record {
        before = w.before;
        later = w.later ++ a ∷ [];
        order = ap (λ (l : List Change). l ++ a ∷ []) w.order ∙ append_assoc w.before (Change.file x ∷ w.later) (a ∷ []);
        accepted = w.accepted;
        kept = never_more x.number a h w.later (c.leaves (Change.file x) (ended c n w.before)) w.kept;
      }

  -- "Withdrawing wipes bits from a map, so that a link opens which another notice names too."
  pub not_opening_for_both : OpensForBoth c → ⊥
  not_opening_for_both w =
      let a : Change = Change.withdraw w.number in
      named_stopped w.n w.legal (w.changes ++ a ∷ []) w.stage w.switch w.code w.link
      (w.other, (still_holds w.n w.changes w.other a (λ e. w.another cc) w.stands, w.still)) w.opens

  -- "Plus and minus of the last stage are taken for one link."
  pub not_plus_and_minus_one_link : PlusAndMinusOneLink c → ⊥
  not_plus_and_minus_one_link w =
      let n : ℕ = suc w.last in
      named_stopped n w.legal w.changes w.last w.switch 1 (omega arith, w.label, omega arith) w.plus
      ((w.one (ended c n w.changes) w.switch).1 (unnamed_clear n w.legal w.changes w.last w.switch 2 (omega arith, w.label, omega arith) w.minus))
