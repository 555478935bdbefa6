-- What crosses the border as a value is small: at most 48 notices are listed, and a run prints what fits its room.
use Rattle.std.specs.Prelude.{Ok, Err, IfOk, ◌<◌, ◌^◌}
use mathlib.Core.Path.{◌≡◌, refl, sym, ap, ◌∙◌}
use mathlib.Core.Bool.{◌||◌}
use mathlib.Core.List.{List, [], ◌∷◌}
use Prim.Native.Nat.{ℕ, ◌≤◌}
use native.Mathlib.Omega.{arith}
use borrow.Author.Tests.{ltb-false}
use lib.ListN.{length, length-take}
use Rattle.table.specs.Checks.{◌below◌}
use Rattle.table.proofs.Checks.{accepted_passed, accepted_says, passed_nth, neither}
use Rattle.fabric.specs.Labels.{outside_sizes}
use Rattle.notices.specs.Notices.{unfit}
use Rattle.standing.specs.Rising.{misfiled, littered}
use Rattle.book.specs.declared.Book.{Book}
use Rattle.printed.specs.Runs.{Ran, Runs}
use Rattle.printed.proofs.Promises.{runs_within}
use Rattle.book.specs.Standing.{standing, unused}
use Rattle.questions.specs.Entries.{listing_says, listing_checks, Lists, Listing}

pub few_listed : {b : Book} {before after : List ℕ} {r : Listing} {count : ℕ} → Lists b before after r → r ≡ Ok count → count ≤ 48
few_listed {b} {before} {after} {r} {count} w e =
    let says = ap listing_says (sym e) ∙ w.says in
    let passed = accepted_passed (listing_checks b before) (length (standing b) ∷ []) (count ∷ []) says in
    let same = accepted_says (listing_checks b before) (length (standing b) ∷ []) (count ∷ []) says in
    let o = neither (outside_sizes b.n || 48 below b.count || misfiled (unfit b.n) 0 (standing b)) (littered (unused b)) (passed_nth (listing_checks b before) 0 passed) in
    let p = neither (outside_sizes b.n || 48 below b.count) (misfiled (unfit b.n) 0 (standing b)) o.0 in
    let few = ltb-false 48 b.count (neither (outside_sizes b.n) (48 below b.count) p.0).1 in
    let k : count ≡ length (standing b) = cc in
    let t = length-take b.count b.notices in
    omega arith

-- so a listing's answer has at most 48, which fit, and what a run answers fits
pub few_of_listing : {b : Book} {before after : List ℕ} (r : Listing) → Lists b before after r → IfOk r (λ count. count ≤ 48)
few_of_listing (Ok count) w = few_listed w refl
few_of_listing (Err why) w = tt

pub few_fit : (r : Listing) → IfOk r (λ count. count ≤ 48) → IfOk r (λ count. count < 2 ^ 56)
few_fit (Ok count) few = omega (arith, few)
few_fit (Err why) few = tt

pub run_fits : {sheet before after : List ℕ} (r : Ran) → Runs sheet before r after → IfOk r (λ bytes. bytes < 2 ^ 56)
run_fits (Ok bytes) w = let h = runs_within w refl in omega arith
run_fits (Err why) w = tt
