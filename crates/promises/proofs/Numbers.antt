-- Demand 3 covers the numbers that are named: after any run they are the lowest among the notices accepted and not withdrawn since. A walk names the
-- notice that the link test names for the link that it meets.
use Rattle.std.specs.Prelude.{Ok, Err, Some}
use Rattle.routes.specs.declared.NoRoute.{NoRoute}
use Rattle.walks.specs.declared.NotClear.{NotClear}
use mathlib.Core.Path.{◌≡◌, refl, sym, ap, subst, ◌∙◌}
use mathlib.Core.Bool.{true, false}
use mathlib.Core.List.{List, [], ◌∷◌}
use Prim.Native.Nat.{ℕ}
use native.Mathlib.Omega.{arith}
use lib.ListN.{get_or}
use Rattle.table.specs.Checks.{Passed, Passed.none, Passed.passes}
use Rattle.fabric.specs.Labels.{outside_sizes}
use Rattle.fabric.specs.Walks.{walked, switch_at}
use Rattle.fabric.proofs.Stages.{walked_lt}
use Rattle.scheme.specs.Tags.{steered, steps_of}
use Rattle.scheme.proofs.NormalTags.{code_at}
use Rattle.scheme.proofs.Steps.{steps_of_tag}
use Rattle.paths.specs.Clear.{Clear}
use Rattle.paths.specs.Ways.{WayBy, Way}
use Rattle.paths.proofs.Ways.{way_as}
use Rattle.notices.specs.Notices.{names, unfit}
use Rattle.standing.specs.Picked.{LowestNumber, some, lowest}
use Rattle.standing.specs.Rising.{Filed, in_places, insert, misfiled, littered}
use Rattle.standing.proofs.Lowest.{lowest_number_as}
use Rattle.book.specs.declared.Book.{Book}
use Rattle.book.specs.Standing.{standing, stopper, counted}
use Rattle.book.specs.Entries.{opened}
use Rattle.book.proofs.Stoppers.{stopper_exactly}
use Rattle.questions.specs.Entries.{link_checks, Tests, Link}
use Rattle.questions.proofs.Entries.{link_lets_pass}
use Rattle.questions.proofs.Testing.{answered, answered_stopped, tests_answers}
use Rattle.changes.specs.Runs.{Change, run, NamesSince}
use Rattle.changes.proofs.Since.{stands_exactly}
use Rattle.routes.specs.Routed.{route_checks, Routes, StopsAWay, Found}
use Rattle.routes.proofs.Numbers.{number_by_notices}
use Rattle.walks.specs.Entries.{walk_checks, Walks, Ended}
use Rattle.walks.proofs.Entries.{walk_lets_pass}
use Rattle.walks.proofs.Promises.{walk_passes}
use Rattle.promises.specs.Examples.{links}
use Rattle.promises.specs.Clearness.{UnnamedSince, StopsAWaySince}
use Rattle.promises.proofs.Clearness.{good, counts_exactly, counted_good, clear_since}

-- "A walk hands on the number that the link test gives.": where a walk is stopped, the link test of the link that it meets answers the number that the walk
-- names
pub walk_passes_on : (b : Book) (s tag i k : ℕ) → Passed (walk_checks b s tag) → Walks b s tag (Err (NotClear.Stopped i k)) → (r : Link)
    → Tests b i (switch_at b.n s (steps_of b.n s tag) i) (get_or (steps_of b.n s tag) i 0) r → r ≡ Ok (Some k)
walk_passes_on b s tag i k passed walks r tests =
    let n : ℕ = b.n in
    let cs : List ℕ = steps_of n s tag in
    let first = walks.walks passed in
    let w = (walk_lets_pass b s tag).0 passed in
    let j : ℕ = switch_at n s cs i in
    let c : ℕ = get_or cs i 0 in
    let ok : Passed (link_checks b i j c) = (link_lets_pass b i j c).1 (w.0, first.stage, walked_lt n 0 s _ w.1, code_at cs i (steps_of_tag n s tag).codes) in
    tests_answers b i j c r ok tests ∙ ap answered first.number ∙ answered_stopped k first.stopped

-- some walk is stopped: in example 2 that of tag 0 meets notice 1 at stage 0. That some route has no path is example 5.
pub some_walk_stopped : Walks (run (links 1 0 1 4 ∷ []) (opened 3)) 1 0 (Err (NotClear.Stopped 0 1))
unfolding run in_places insert misfiled steered walked
some_walk_stopped =
    walk_passes _ 1 0 (Err (NotClear.Stopped 0 1)) (passes refl (passes refl (passes refl none)))
    (record { stage = omega arith; number = refl; stopped = λ e. omega (arith, e); before = λ m h. absurd (omega arith) })

module _ (n : ℕ) (legal : outside_sizes n ≡ false) (changes : List Change) where
  abbrev ran : Book
  ran = run changes (opened n)

  pub same_size : ran.n ≡ n
  same_size = ap (λ (b : Book). b.n) (good n legal changes).whole

  filed : Filed (unfit ran.n) 0 (standing ran)
  filed = subst (λ (m : ℕ). Filed (unfit m) 0 (standing ran)) (sym same_size) (good n legal changes).filed

  -- the number that a walk names is the lowest among the notices of the run that name the link which it meets
  pub walk_number_since : (s tag i k : ℕ) → Passed (walk_checks ran s tag) → Walks ran s tag (Err (NotClear.Stopped i k))
      → LowestNumber (NamesSince n changes i (switch_at n s (steps_of n s tag) i) (get_or (steps_of n s tag) i 0)) k
  walk_number_since s tag i k passed walks =
      let first = walks.walks passed in
      let held = first.stopped in
      subst (λ (m : ℕ). LowestNumber (NamesSince n changes i (switch_at m s (steps_of m s tag) i) (get_or (steps_of m s tag) i 0)) k) same_size
      (lowest_number_as
      (λ x w. ((stands_exactly n changes x).0 w.0, subst (λ (m : ℕ). names m x i (switch_at ran.n s (steps_of ran.n s tag) i) (get_or (steps_of ran.n s tag) i 0) ≡ true) same_size w.1))
      (λ x w. ((stands_exactly n changes x).1 w.0, subst (λ (m : ℕ). names m x i (switch_at ran.n s (steps_of ran.n s tag) i) (get_or (steps_of ran.n s tag) i 0) ≡ true) (sym same_size) w.1))
      ((stopper_exactly ran.n i _ _ k (standing ran) filed).1 (first.number, omega arith)))

  counted_filed : (choice : ℕ) → Filed (unfit ran.n) 0 (counted choice ran)
  counted_filed choice = subst (λ (m : ℕ). Filed (unfit m) 0 (counted choice ran)) (sym same_size) (counted_good n legal changes choice)

  -- a way onward over the book is one over the run: what makes a walk clear is that no counted notice of the run names one of its links
  way_since : (choice s d i j c : ℕ) → Way n (stopper n (counted choice ran)) s d i j c → WayBy (UnnamedSince n choice changes s) n s d i j c
  way_since choice s d i j c =
      way_as (λ cs clear. (clear_since n legal changes choice s cs).0 (subst (λ (m : ℕ). Clear n (stopper m (counted choice ran)) s cs) (sym same_size) clear))

  since_way : (choice s d i j c : ℕ) → WayBy (UnnamedSince n choice changes s) n s d i j c → Way n (stopper n (counted choice ran)) s d i j c
  since_way choice s d i j c =
      way_as (λ cs none. subst (λ (m : ℕ). Clear n (stopper m (counted choice ran)) s cs) same_size ((clear_since n legal changes choice s cs).1 none))

  -- the number that a route names is the lowest among the counted notices of the run that stop a way onward
  pub route_number_since : (s d choice i k : ℕ) → Passed (route_checks ran s d choice) → Routes ran s d choice (Err (NoRoute.NoClearPath i k)) → LowestNumber (StopsAWaySince n choice changes s d i) k
  route_number_since s d choice i k passed routes =
      lowest_number_as
      (λ x w. let v = w.1 in ((counts_exactly n legal changes choice x).0 w.0, (v.0, v.1, way_since choice s d i v.0 v.1 v.2, v.3)))
      (λ x w. let v = w.1 in ((counts_exactly n legal changes choice x).1 w.0, (v.0, v.1, since_way choice s d i v.0 v.1 v.2, v.3)))
      (subst (λ (m : ℕ). LowestNumber (StopsAWay m (counted choice ran) s d i) k) same_size
      ((number_by_notices ran.n (counted choice ran) (counted_filed choice) s d i k).0 (routes.routes passed).2))
