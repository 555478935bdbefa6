-- Route and walk agree: walking the tag that a route answered says clear.
use Rattle.std.specs.Prelude.{Ok}
use mathlib.Core.Path.{◌≡◌, sym, ap, subst, ◌∙◌}
use mathlib.Core.List.{List}
use Prim.Native.Nat.{ℕ, ◌<◌}
use borrow.Author.Tests.{leb-false, lt-leb}
use Rattle.table.specs.Checks.{Passed, Passed.none, Passed.passes, ◌not_below◌}
use Rattle.table.proofs.Checks.{passed_nth, neither}
use Rattle.fabric.specs.Labels.{size}
use Rattle.scheme.specs.Tags.{tags, steps_of}
use Rattle.scheme.proofs.NormalTags.{steps_come_back, normal_is_tag}
use Rattle.scheme.proofs.Steps.{tag_arrives}
use Rattle.book.specs.declared.Book.{Book}
use Rattle.book.specs.Standing.{stops_of}
use Rattle.paths.specs.Clear.{Clear}
use Rattle.walks.proofs.Entries.{walked_once}
use Rattle.walks.specs.Entries.{walk_checks, Walked, Walks, Ended}
use Rattle.routes.specs.Routed.{route_checks, Routes, Found}
use Rattle.routes.proofs.Choices.{all_counted_route}

-- of a route over all notices, as a walk counts all of them
pub route_walks_clear : (b : Book) (s d t : ℕ) → Passed (route_checks b s d 0) → Routes b s d 0 (Ok t) → (a : Ended) → Walks b s t a → a ≡ Ok tt
route_walks_clear b s d t passed answers a walks =
    let n : ℕ = b.n in
    let w = all_counted_route b s d (Ok t) passed answers in
    let cs : List ℕ = w.0 in
    let o = neither (s not_below size n) (d not_below size n) (passed_nth (route_checks b s d 0) 1 passed) in
    let label : s < size n = leb-false (size n) s o.0 in
    let steps = w.1.clear_path.path.steps in
    let back : steps_of n s t ≡ cs = ap (steps_of n s) w.2 ∙ steps_come_back n s label cs steps in
    let small : t < tags n = subst (λ (x : ℕ). x < tags n) (sym w.2) (normal_is_tag n s label cs steps.stages) in
    let ok : Passed (walk_checks b s t) = passes (passed_nth (route_checks b s d 0) 0 passed) (passes o.0 (passes (lt-leb (tags n) t small) none)) in
    let clear : Walked n (stops_of b) s t (Ok tt) = (subst (Clear n (stops_of b) s) (sym back) w.1.clear_path.clear, tag_arrives n s t label) in
    walked_once n (stops_of b) s t a (Ok tt) (walks.walks ok) clear
