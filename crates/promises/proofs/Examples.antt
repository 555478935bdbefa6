-- The thirteen examples: one test, computed over the whole table, and one law that turns it into the claim of each row.
use Rattle.std.specs.Prelude.{Ok, Err, Some}
use Rattle.routes.specs.declared.NoRoute.{NoRoute}
use mathlib.Core.Path.{◌≡◌, refl, ap, ap₂, subst}
use mathlib.Core.Bool.{Bool, true, false, not, ◌&&◌, false≢true}
use mathlib.Core.List.{List, [], ◌∷◌, ◌++◌}
use Prim.Native.Nat.{ℕ, zero, suc}
use borrow.Author.Tests.{eqb-true, eqb-false, leb-false, not-true}
use lib.Dec.{eqb}
use lib.ListN.{drop, get_or, replicate}
use lib.Count.{ones}
use Rattle.table.specs.Checks.{Check, Passed, Passed.none, Passed.passes, ◌not_below◌}
use Rattle.table.proofs.Checks.{passed_nth, neither, both_hold}
use Rattle.fabric.specs.Labels.{size}
use Rattle.fabric.specs.Walks.{walked}
use Rattle.scheme.specs.Tags.{steered, steps_of, states_of, normal_tag}
use Rattle.tags.specs.Entries.{tag_to_steps_checks, normal_form_checks}
use Rattle.tags.proofs.Promises.{to_steps_accepts, form_accepts}
use Rattle.frontier.specs.Columns.{high}
use Rattle.frontier.specs.Frontier.{through, lesser, advanced, mirrored}
use Rattle.notices.specs.declared.Target.TheVariants.{Links}
use Rattle.book.specs.declared.Book.{Book}
use Rattle.book.specs.Standing.{standing, stopper, counted_stops}
use Rattle.standing.specs.Picked.{some, lowest, those}
use Rattle.standing.specs.Rising.{in_places, insert, misfiled, littered}
use Rattle.book.specs.Entries.{opened}
use Rattle.questions.specs.Entries.{link_checks, Tests, Link}
use Rattle.changes.specs.Runs.{Change, change_checks, after, run, AllAccepted}
use Rattle.changes.proofs.Changes.{taken}
use Rattle.questions.proofs.Answers.{link_stopped}
use Rattle.routes.specs.Routed.{Routed, route_checks, Routes, Found}
use Rattle.routes.proofs.Entries.{route_passes}
use Rattle.promises.specs.Examples.{Example, Claim, examples, AllHold, links}
use Rattle.crossing.proofs.Least.{lesser_of}
use Rattle.promises.proofs.Found.{answer_from, route_of, route_of_routed}

passing : List Check → Bool
passing [] = true
passing (c ∷ cs) = not c.holds && passing cs

passing_passes : (cs : List Check) → passing cs ≡ true → Passed cs
unfolding passing
passing_passes [] e = none
passing_passes (c ∷ cs) e = let w = (both_hold (not c.holds) (passing cs)).0 e in passes (not-true c.holds w.0) (passing_passes cs w.1)

same_list : List ℕ → List ℕ → Bool
same_list [] [] = true
same_list [] (y ∷ ys) = false
same_list (x ∷ xs) [] = false
same_list (x ∷ xs) (y ∷ ys) = eqb x y && same_list xs ys

same_list_equal : (xs ys : List ℕ) → same_list xs ys ≡ true → xs ≡ ys
unfolding same_list
same_list_equal [] [] e = refl
same_list_equal [] (y ∷ ys) e = absurd (false≢true e)
same_list_equal (x ∷ xs) [] e = absurd (false≢true e)
same_list_equal (x ∷ xs) (y ∷ ys) e =
    let w = (both_hold (eqb x y) (same_list xs ys)).0 e in ap₂ (λ (a : ℕ) (b : List ℕ). a ∷ b) (eqb-true x y w.0) (same_list_equal xs ys w.1)

same_found : Found → Found → Bool
same_found (Ok t) (Ok u) = eqb t u
same_found (Ok t) (Err (NoRoute.NoClearPath j m)) = false
same_found (Ok t) (Err (NoRoute.Refused r)) = false
same_found (Err (NoRoute.NoClearPath i k)) (Ok u) = false
same_found (Err (NoRoute.NoClearPath i k)) (Err (NoRoute.NoClearPath j m)) = eqb i j && eqb k m
same_found (Err (NoRoute.NoClearPath i k)) (Err (NoRoute.Refused r)) = false
same_found (Err (NoRoute.Refused q)) b = false

same_found_equal : (a b : Found) → same_found a b ≡ true → a ≡ b
unfolding same_found
same_found_equal (Ok t) (Ok u) e = ap Ok (eqb-true t u e)
same_found_equal (Ok t) (Err (NoRoute.NoClearPath j m)) e = absurd (false≢true e)
same_found_equal (Ok t) (Err (NoRoute.Refused r)) e = absurd (false≢true e)
same_found_equal (Err (NoRoute.NoClearPath i k)) (Ok u) e = absurd (false≢true e)
same_found_equal (Err (NoRoute.NoClearPath i k)) (Err (NoRoute.NoClearPath j m)) e = let w = (both_hold (eqb i j) (eqb k m)).0 e in ap₂ (λ x y. Err (NoRoute.NoClearPath x y)) (eqb-true i j w.0) (eqb-true k m w.1)
same_found_equal (Err (NoRoute.NoClearPath i k)) (Err (NoRoute.Refused r)) e = absurd (false≢true e)
same_found_equal (Err (NoRoute.Refused q)) b e = absurd (false≢true e)

-- whether every change of a run is accepted
accepting : List Change → Book → Bool
accepting [] b = true
accepting (a ∷ rest) b = passing (change_checks a b) && accepting rest (after a b)

all_accepted : (changes : List Change) (b : Book) → accepting changes b ≡ true → AllAccepted changes b
unfolding accepting AllAccepted
all_accepted [] b e = tt
all_accepted (a ∷ rest) b e =
    let w = (both_hold (passing (change_checks a b)) (accepting rest (after a b))).0 e in
    ((taken a b (passing_passes (change_checks a b) w.0)).0, all_accepted rest (after a b) w.1)

-- the tests of a row: for route and link test, what holds of the book that the changes make
routing : Book → ℕ → ℕ → ℕ → Found → Bool
routing b s d choice a = passing (route_checks b s d choice) && same_found (route_of b.n (counted_stops choice b) s d) a

stopping : Book → ℕ → ℕ → ℕ → ℕ → Bool
stopping b i j c k = passing (link_checks b i j c) && (eqb k (stopper b.n (standing b) i j c) && not (eqb k 0))

test : Example → Bool
test (Example.route n changes s d a) = accepting changes (opened n) && routing (run changes (opened n)) s d 0 a
test (Example.normal n s tag form) = passing (normal_form_checks n s tag) && eqb form (normal_tag n s (steps_of n s tag))
test (Example.steps n s tag cs) = passing (tag_to_steps_checks n s tag (replicate n 0)) && same_list cs (steps_of n s tag ++ drop n (replicate n 0))
test (Example.stopped n changes i j c k) = accepting changes (opened n) && stopping (run changes (opened n)) i j c k

routes_so : (b : Book) (s d choice : ℕ) (a : Found) → routing b s d choice a ≡ true → Routes b s d choice a
unfolding routing
routes_so b s d choice a e =
    let w = (both_hold (passing (route_checks b s d choice)) (same_found (route_of b.n (counted_stops choice b) s d) a)).0 e in
    let passed = passing_passes (route_checks b s d choice) w.0 in
    let o = neither (s not_below size b.n) (d not_below size b.n) (passed_nth (route_checks b s d choice) 1 passed) in
    route_passes b s d choice a passed
    (subst (Routed b.n (counted_stops choice b) s d) (same_found_equal (route_of b.n (counted_stops choice b) s d) a w.1)
    (route_of_routed b.n (counted_stops choice b) s d (leb-false (size b.n) s o.0) (leb-false (size b.n) d o.1)))

stopped_so : (b : Book) (i j c k : ℕ) → stopping b i j c k ≡ true → Tests b i j c (Ok (Some k))
unfolding stopping
stopped_so b i j c k e =
    let w = (both_hold (passing (link_checks b i j c)) (eqb k (stopper b.n (standing b) i j c) && not (eqb k 0))).0 e in
    let v = (both_hold (eqb k (stopper b.n (standing b) i j c)) (not (eqb k 0))).0 w.1 in
    link_stopped b i j c (eqb-true k (stopper b.n (standing b) i j c) v.0) (eqb-false k 0 (not-true _ v.1)) (passing_passes (link_checks b i j c) w.0)

row : (e : Example) → test e ≡ true → Claim e
unfolding test
row (Example.route n changes s d a) e =
    let w = (both_hold (accepting changes (opened n)) (routing (run changes (opened n)) s d 0 a)).0 e in
    (all_accepted changes (opened n) w.0, routes_so (run changes (opened n)) s d 0 a w.1)
row (Example.normal n s tag form) e =
    let w = (both_hold (passing (normal_form_checks n s tag)) (eqb form (normal_tag n s (steps_of n s tag)))).0 e in
    form_accepts (passing_passes (normal_form_checks n s tag) w.0) (eqb-true form (normal_tag n s (steps_of n s tag)) w.1)
row (Example.steps n s tag cs) e =
    let w = (both_hold (passing (tag_to_steps_checks n s tag (replicate n 0))) (same_list cs (steps_of n s tag ++ drop n (replicate n 0)))).0 e in
    to_steps_accepts (passing_passes (tag_to_steps_checks n s tag (replicate n 0)) w.0) (same_list_equal cs (steps_of n s tag ++ drop n (replicate n 0)) w.1)
row (Example.stopped n changes i j c k) e =
    let w = (both_hold (accepting changes (opened n)) (stopping (run changes (opened n)) i j c k)).0 e in
    (all_accepted changes (opened n) w.0, stopped_so (run changes (opened n)) i j c k w.1)

every : List Example → Bool
every [] = true
every (e ∷ es) = test e && every es

all_rows : (es : List Example) → every es ≡ true → AllHold es
unfolding every AllHold
all_rows [] e = tt
all_rows (x ∷ es) e = let w = (both_hold (test x) (every es)).0 e in (row x w.0, all_rows es w.1)

tested : every examples ≡ true
unfolding every test routing stopping accepting passing same_found same_list run in_places insert misfiled ones steered states_of walked high through lesser advanced mirrored lesser_of answer_from
tested = refl

-- the thirteen examples
pub examples_hold : AllHold examples
examples_hold = all_rows examples tested

-- and each row by its place, counted from 0
row_of : (es : List Example) → AllHold es → (k : ℕ) (e : Example) → Claim e → Claim (get_or es k e)
unfolding AllHold
row_of [] all k e claim = claim
row_of (x ∷ es) all zero e claim = all.0
row_of (x ∷ es) all (suc k) e claim = row_of es all.1 k e claim

pub row_holds : (k : ℕ) → Claim (get_or examples k (Example.route 3 [] 1 0 (Ok 0)))
unfolding AllHold
row_holds k = row_of examples examples_hold k (Example.route 3 [] 1 0 (Ok 0)) examples_hold.0

-- docs/RULES.md, 'Classes': examples 1, 9 and 6 over broken notices only, which all of theirs are
pub broken_only_rows :
    Routes (run [] (opened 3)) 1 0 1 (Ok 0) × Routes (run [] (opened 1)) 0 1 1 (Ok 1) × Routes (run (links 1 1 0 1 ∷ []) (opened 3)) 1 0 1 (Ok 8)
unfolding routing passing same_found run in_places insert misfiled ones steered states_of walked high through lesser advanced mirrored lesser_of answer_from
broken_only_rows = (
  routes_so (run [] (opened 3)) 1 0 1 (Ok 0) refl,
  routes_so (run [] (opened 1)) 0 1 1 (Ok 1) refl,
  routes_so (run (links 1 1 0 1 ∷ []) (opened 3)) 1 0 1 (Ok 8) refl,
)

-- A filing of links that are only busy; and what a book after accepted changes answers with choice 0 and with choice 1
abbrev busied : ℕ → ℕ → ℕ → ℕ → Change
busied k stage switch set = Change.file (record { number = k; target = Links stage switch set; class = 1 })

abbrev BothChoices : ℕ → List Change → ℕ → ℕ → Found → Found → Type 0
BothChoices n changes s d all broken =
    AllAccepted changes (opened n) × Routes (run changes (opened n)) s d 0 all × Routes (run changes (opened n)) s d 1 broken

asked_twice : ℕ → List Change → ℕ → ℕ → Found → Found → Bool
asked_twice n changes s d all broken =
    accepting changes (opened n) && (routing (run changes (opened n)) s d 0 all && routing (run changes (opened n)) s d 1 broken)

both_choices : (n : ℕ) (changes : List Change) (s d : ℕ) (all broken : Found) → asked_twice n changes s d all broken ≡ true → BothChoices n changes s d all broken
unfolding asked_twice
both_choices n changes s d all broken e =
    let b : Book = run changes (opened n) in
    let v = (both_hold (accepting changes (opened n)) (routing b s d 0 all && routing b s d 1 broken)).0 e in
    let w = (both_hold (routing b s d 0 all) (routing b s d 1 broken)).0 v.1 in
    (all_accepted changes (opened n) v.0, routes_so b s d 0 all w.0, routes_so b s d 1 broken w.1)

-- Example 2 with its notice busy, and example 5 with its third: over all notices they answer as before, over broken ones only as if it were not there. And two
-- notices that stop the same links, the lower one busy: over broken ones only the number after `BY` is the other's.
pub busy_is_not_broken :
    BothChoices 3 (busied 1 0 1 4 ∷ []) 1 0 (Ok 8) (Ok 0)
    × BothChoices 3 (links 1 0 1 4 ∷ links 2 1 2 4 ∷ busied 3 2 4 4 ∷ links 4 2 4 2 ∷ []) 1 0 (Err (NoRoute.NoClearPath 2 3)) (Ok 24)
    × BothChoices 1 (busied 1 0 0 6 ∷ links 2 0 0 6 ∷ []) 0 1 (Err (NoRoute.NoClearPath 0 1)) (Err (NoRoute.NoClearPath 0 2))
unfolding asked_twice routing accepting passing same_found run in_places insert misfiled ones steered states_of walked high through lesser advanced mirrored lesser_of answer_from
busy_is_not_broken = (
  both_choices 3 (busied 1 0 1 4 ∷ []) 1 0 (Ok 8) (Ok 0) refl,
  both_choices 3 (links 1 0 1 4 ∷ links 2 1 2 4 ∷ busied 3 2 4 4 ∷ links 4 2 4 2 ∷ []) 1 0 (Err (NoRoute.NoClearPath 2 3)) (Ok 24) refl,
  both_choices 1 (busied 1 0 0 6 ∷ links 2 0 0 6 ∷ []) 0 1 (Err (NoRoute.NoClearPath 0 1)) (Err (NoRoute.NoClearPath 0 2)) refl,
)
