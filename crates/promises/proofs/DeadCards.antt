-- docs/RULES.md, 'Notices': a dead card in column 0. While a notice of it stands, no route and no walk leaves its switch.
use Rattle.std.specs.Prelude.{Ok, Err}
use Rattle.routes.specs.declared.NoRoute.{NoRoute}
use Rattle.walks.specs.declared.NotClear.{NotClear}
use mathlib.Core.Path.{◌≡◌, refl, sym, ap, subst, ◌∙◌}
use mathlib.Core.Bool.{true, false}
use mathlib.Core.List.Memᴰ
use mathlib.Core.List.{List, [], ◌∷◌}
use mathlib.Core.Logic.{⊎_elim, ◌↔◌}
use Prim.Native.Nat.{ℕ, ◌≤◌, ◌<◌}
use native.Mathlib.Decide.{ℕ_discrete}
use native.Mathlib.Omega.{arith}
use borrow.Author.Tests.{ltb-false}
use lib.ListN.{length, get_or}
use Rattle.table.specs.Checks.{Passed, ◌below◌}
use Rattle.table.proofs.Checks.{neither}
use Rattle.fabric.specs.Labels.{size, outside_sizes, bit, Agree}
use Rattle.fabric.specs.Links.{Code, lands}
use Rattle.fabric.specs.Walks.{walked, switch_at}
use Rattle.fabric.proofs.Links.{straight_toward, nonstraight_toward}
use Rattle.scheme.specs.Tags.{tags, steps_of}
use Rattle.paths.specs.Clear.{NoneCross, StageNamed}
use Rattle.paths.proofs.Named.{none_clear, stage_once}
use Rattle.notices.specs.declared.Notice.{Notice}
use Rattle.notices.specs.declared.Target.TheVariants.{Switch}
use Rattle.notices.specs.Notices.{names, unfit}
use Rattle.notices.specs.Classes.{counts}
use Rattle.notices.proofs.Classes.{broken_always}
use Rattle.notices.proofs.Named.{column_0_names_outputs}
use Rattle.notices.proofs.Fit.{switch_fit}
use Rattle.standing.specs.Picked.{LowestNumber, some, lowest}
use Rattle.standing.specs.Rising.{insert, misfiled, littered, in_places}
use Rattle.standing.proofs.Members.{none_bad}
use Rattle.standing.proofs.Lowest.{lowest_number_as}
use Rattle.book.specs.declared.Book.{Book}
use Rattle.book.specs.Standing.{standing, stops_of, counted, counted_stops}
use Rattle.book.specs.Entries.{opened}
use Rattle.book.proofs.Stoppers.{stopper_none}
use Rattle.changes.specs.Runs.{Change, run, NotWithdrawn, StandsSince, NamesSince}
use Rattle.changes.proofs.Reach.{good_sound}
use Rattle.changes.proofs.Since.{stands_exactly}
use Rattle.routes.specs.Routed.{Routed, route_checks, Routes, Found}
use Rattle.routes.proofs.Entries.{route_lets_pass, route_passes}
use Rattle.walks.specs.Entries.{Walked, Walks, Ended}
use Rattle.walks.proofs.Entries.{walk_lets_pass}
use Rattle.walks.proofs.Promises.{walk_passes}
use Rattle.promises.specs.Clearness.{StopsAWaySince}
use Rattle.promises.specs.DeadCards.{StopsAWayOut, NoRouteLeaves, NoWalkLeaves}
use Rattle.promises.proofs.Clearness.{good, rule, counts_exactly, counted_good, counted_rule}
use Rattle.promises.proofs.Numbers.{same_size, walk_number_since, route_number_since}
use Rattle.promises.proofs.Found.{route_of, route_of_routed}

-- a walk starts at its source
at_source : (n s : ℕ) (cs : List ℕ) → switch_at n s cs 0 ≡ s
unfolding walked
at_source n s cs = refl

-- the notices that stop a way out are those that stop a way onward at stage 0
pub ways_out : (n choice : ℕ) (changes : List Change) (s d : ℕ) (x : Notice) → StopsAWayOut n choice changes s d x ↔ StopsAWaySince n choice changes s d 0 x
unfolding walked
ways_out n choice changes s d x = (there, back)
  where
    there : StopsAWayOut n choice changes s d x → StopsAWaySince n choice changes s d 0 x
    there w =
        let v = w.1 in
        (w.0, (s, v.0, record { walk = []; links = refl; codes = tt; is_clear = λ k h. absurd (omega arith); reaches = refl; code = v.1; toward = v.2 }, v.3))

    empty : (cs : List ℕ) → length cs ≡ 0 → cs ≡ []
    empty [] e = refl
    empty (c ∷ cs) e = absurd (omega (arith, e))

    back : StopsAWaySince n choice changes s d 0 x → StopsAWayOut n choice changes s d x
    back w =
        let v = w.1 in
        let way = v.2 in
        let from : v.0 ≡ s = sym way.reaches ∙ ap (walked n 0 s) (empty way.walk way.links) in
        (w.0, (v.1, way.code, subst (λ (j : ℕ). Agree 1 (lands n 0 v.1 j) d) from way.toward, subst (λ (j : ℕ). names n x 0 j v.1 ≡ true) from v.3))

-- a walk from another switch meets none of the links that a notice of column 0 names
pub others_leave : (n : ℕ) (x : Notice) (w s : ℕ) → x.target ≡ Switch 0 w → (s ≡ w → ⊥) → (cs : List ℕ) (k c : ℕ) → names n x k (switch_at n s cs k) c ≡ true → ⊥
others_leave n x w s is other cs k c named =
    let v = (column_0_names_outputs n x w k (switch_at n s cs k) c is).0 named in
    other (sym (at_source n s cs) ∙ ap (switch_at n s cs) (sym v.0) ∙ v.1)

-- a notice of column 0 that was accepted in a run and not withdrawn since
module _ (n : ℕ) (legal : outside_sizes n ≡ false) (changes : List Change) (x : Notice) (since : StandsSince (opened n) changes x) (s : ℕ) (is : x.target ≡ Switch 0 s) where
  abbrev ran : Book
  ran = run changes (opened n)

  size_of : (P : ℕ → Type 0) → P n → P ran.n
  size_of P p = subst P (sym (same_size n legal changes)) p

  some_stage : 0 < n
  some_stage = let h = ltb-false n 1 (neither (n below 1) (12 below n) legal).0 in omega arith

  label : s < size n
  label = ((switch_fit n x 0 s is).0 (none_bad (unfit n) 0 (standing ran) x (good n legal changes).filed ((stands_exactly n changes x).1 since))).1

  -- every link out of its switch is stopped
  held : (c : ℕ) → stops_of ran 0 s c ≡ 0 → ⊥
  held c clear =
      (stopper_none n 0 s c (standing ran) (good n legal changes).filed).0
      (sym (rule n legal changes 0 s c) ∙ clear)
      (x, (stands_exactly n changes x).1 since, (column_0_names_outputs n x s 0 s c is).1 (refl, refl))

  -- by a counted notice, where the notice of the card counts
  module _ (choice : ℕ) (few : choice ≤ 1) (counted_in : counts choice x ≡ true) where
    held_counted : (c : ℕ) → counted_stops choice ran 0 s c ≡ 0 → ⊥
    held_counted c clear =
        (stopper_none n 0 s c (counted choice ran) (counted_good n legal changes choice)).0
        (sym (counted_rule n legal changes choice 0 s c) ∙ clear)
        (x, (counts_exactly n legal changes choice x).1 (since, counted_in), (column_0_names_outputs n x s 0 s c is).1 (refl, refl))

    none_leave : (d : ℕ) → NoneCross n (counted_stops choice ran) s d 0
    none_leave d cs o = let one = o.links in held_counted (get_or cs 0 0) (rw (at_source n s cs) at (o.clear 0 (omega arith)))

    asked : (d : ℕ) → d < size n → Passed (route_checks ran s d choice)
    asked d dest =
        (route_lets_pass ran s d choice).1
        (good_sound n ran legal (good n legal changes), size_of (λ (m : ℕ). s < size m) label, size_of (λ (m : ℕ). d < size m) dest, few)

    -- no route leaves it
    pub dead_card : NoRouteLeaves n choice changes s
    dead_card d dest = go (route_of n (counted_stops choice ran) s d) (route_of_routed n (counted_stops choice ran) s d label dest)
      where
        named : StageNamed n (counted_stops choice ran) s d 0
        named = record { none = none_leave d; least = λ k none. omega arith }

        go : (a : Found) → Routed n (counted_stops choice ran) s d a → (k : ℕ) × Routes ran s d choice (Err (NoRoute.NoClearPath 0 k)) × LowestNumber (StopsAWayOut n choice changes s d) k
        go (Ok t) w = absurd (none_clear n (counted_stops choice ran) s d 0 some_stage (none_leave d) w.0 w.1.clear_path)
        go (Err (NoRoute.NoClearPath i k)) w =
            let first = subst (λ (z : ℕ). Routed n (counted_stops choice ran) s d (Err (NoRoute.NoClearPath z k))) (stage_once n (counted_stops choice ran) s d i 0 w.1 named) w in
            let routes = route_passes ran s d choice (Err (NoRoute.NoClearPath 0 k)) (asked d dest) (size_of (λ (m : ℕ). Routed m (counted_stops choice ran) s d (Err (NoRoute.NoClearPath 0 k))) first) in
            (k, routes, lowest_number_as (λ y. (ways_out n choice changes s d y).1) (λ y. (ways_out n choice changes s d y).0) (route_number_since n legal changes s d choice 0 k (asked d dest) routes))
        go (Err (NoRoute.Refused r)) w = absurd w

    -- the card's own notice stops a way out to every destination, so none of a higher number is named
    pub dead_card_counts : (d : ℕ) → StopsAWayOut n choice changes s d x
    dead_card_counts d = go (ℕ_discrete (bit 0 s) (bit 0 d))
      where
        out : (c : ℕ) → Code c → Agree 1 (lands n 0 c s) d → StopsAWayOut n choice changes s d x
        out c code toward = ((since, counted_in), (c, code, toward, (column_0_names_outputs n x s 0 s c is).1 (refl, refl)))

        go : Dec (bit 0 s ≡ bit 0 d) → StopsAWayOut n choice changes s d x
        go (yes e) = out 0 (omega arith) (straight_toward n 0 some_stage s d (omega arith) e)
        go (no e) = out 1 (omega arith) (nonstraight_toward n 0 some_stage 1 s d (omega arith) (omega arith) e)

  -- and no walk leaves it
  pub dead_card_walked : NoWalkLeaves n changes s
  dead_card_walked tag h =
      let cs : List ℕ = steps_of n s tag in
      let c : ℕ = get_or cs 0 0 in
      let k : ℕ = stops_of ran 0 s c in
      let stopped : Walked n (stops_of ran) s tag (Err (NotClear.Stopped 0 k)) =
      record { stage = some_stage; number = ap (λ (j : ℕ). stops_of ran 0 j c) (at_source n s cs); stopped = held c; before = λ m z. absurd (omega arith) } in
      let passed = (walk_lets_pass ran s tag).1 (good_sound n ran legal (good n legal changes), size_of (λ (m : ℕ). s < size m) label, size_of (λ (m : ℕ). tag < tags m) h) in
      let walks : Walks ran s tag (Err (NotClear.Stopped 0 k)) = walk_passes ran s tag (Err (NotClear.Stopped 0 k)) passed (size_of (λ (m : ℕ). Walked m (stops_of ran) s tag (Err (NotClear.Stopped 0 k))) stopped) in
      (k, walks, subst (λ (j : ℕ). LowestNumber (NamesSince n changes 0 j c) k) (at_source n s cs) (walk_number_since n legal changes s tag 0 k passed walks))

-- There is such a card: of switch 5, by notice 6, in a fabric of three stages. Its own number is named, whatever the destination and whatever the tag.
abbrev pub card : Notice
card = record { number = 6; target = Switch 0 5; class = 0 }

abbrev pub carded : List Change
carded = Change.file card ∷ []

pub some_dead_card : StandsSince (opened 3) carded card
unfolding run NotWithdrawn insert misfiled in_places
some_dead_card = record { before = []; later = []; order = refl; accepted = refl; kept = tt }

card_alone : (y : Notice) → StandsSince (opened 3) carded y → y.number ≡ 6
unfolding run insert misfiled in_places
card_alone y since =
    ⊎_elim
    (λ e. ap (λ (z : Notice). z.number) e)
    (λ m. absurd (Memᴰ.not-nil m))
    (Memᴰ.cases_cons ((stands_exactly 3 carded y).1 since))

pub card_named : (choice : ℕ) → choice ≤ 1 → (d : ℕ) → d < size 3 → Routes (run carded (opened 3)) 5 d choice (Err (NoRoute.NoClearPath 0 6))
card_named choice few d dest =
    let w = dead_card 3 refl carded card some_dead_card 5 refl choice few (broken_always card choice refl) d dest in
    let lowest = w.2 in
    subst (λ (k : ℕ). Routes (run carded (opened 3)) 5 d choice (Err (NoRoute.NoClearPath 0 k))) (sym lowest.numbered ∙ card_alone lowest.notice lowest.among.0.0) w.1

pub card_walked : (tag : ℕ) → tag < tags 3 → Walks (run carded (opened 3)) 5 tag (Err (NotClear.Stopped 0 6))
card_walked tag h =
    let w = dead_card_walked 3 refl carded card some_dead_card 5 refl tag h in
    let lowest = w.2 in
    subst (λ (k : ℕ). Walks (run carded (opened 3)) 5 tag (Err (NotClear.Stopped 0 k))) (sym lowest.numbered ∙ card_alone lowest.notice lowest.among.0) w.1
