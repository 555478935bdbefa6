-- No function of the face has a second answer, and none leaves lent memory in a second way: `tells_once` of packing, `over_sheet_once` of
-- handed, `sheet_told_once`, `asked_once` and `write_told_once` of held and `fields_once` of fields, with the entries' own theorems. Here are those that write by an entry's own promise.
use mathlib.Core.Path.{◌≡◌, ap, sym, ◌∙◌}
use mathlib.Core.List.{List}
use Prim.Native.Nat.{ℕ}
use Rattle.table.specs.Reply.{answer_says, Answer}
use Rattle.packing.specs.Packed.{packed, Tells}
use Rattle.book.specs.declared.Book.{Book}
use Rattle.questions.specs.Entries.{listing_says, Lists, Listing}
use Rattle.questions.proofs.Once.{lists_once}
use Rattle.pairs.specs.Pairs.{RoutesPairs}
use Rattle.pairs.proofs.Pairs.{pairs_once}
use Rattle.handed.specs.Books.{OverLent}
use Rattle.handed.proofs.Once.{over_once}
use Rattle.tags.specs.Entries.{TagToSteps}
use Rattle.tags.proofs.Entries.{tag_to_steps_once}
use Rattle.printed.specs.Runs.{ran_says, Runs, Ran}
use Rattle.printed.proofs.RunOnce.{run_once}

pub steps_told_once : (n s tag : ℕ) (before after later : List ℕ) (q r : ℕ)
    → Tells (λ a. TagToSteps n s tag before a after) answer_says q → Tells (λ a. TagToSteps n s tag before a later) answer_says r → (q ≡ r) × (after ≡ later)
steps_told_once n s tag before after later q r v w =
    let e = tag_to_steps_once n s tag before v.0 w.0 after later v.1 w.1 in
    (v.2 ∙ ap (λ (a : Answer). packed (answer_says a)) e.0 ∙ sym w.2, e.1)

pub listing_told_once : (sheet before after later : List ℕ) (q r : ℕ)
    → OverLent sheet before after (λ b. Tells (Lists b before after) listing_says) q → OverLent sheet before later (λ b. Tells (Lists b before later) listing_says) r
    → (q ≡ r) × (after ≡ later)
listing_told_once sheet before after later q r v w = over_once sheet before after later _ _ q r same v w
  where
    same : (b : Book) → Tells (Lists b before after) listing_says q → Tells (Lists b before later) listing_says r → (q ≡ r) × (after ≡ later)
    same b x y =
        let e = lists_once b before after later x.0 y.0 x.1 y.1 in
        (x.2 ∙ ap (λ (a : Listing). packed (listing_says a)) e.0 ∙ sym y.2, e.1)

pub routes_told_once : (choice : ℕ) (sheet pairs before after later : List ℕ) (q r : ℕ)
    → OverLent sheet before after (λ b. RoutesPairs b choice pairs before after) q → OverLent sheet before later (λ b. RoutesPairs b choice pairs before later) r
    → (q ≡ r) × (after ≡ later)
routes_told_once choice sheet pairs before after later q r v w = over_once sheet before after later _ _ q r (λ b x y. pairs_once b choice pairs before after later q r x y) v w

pub run_told_once : (sheet before after later : List ℕ) (q r : ℕ)
    → Tells (λ a. Runs sheet before a after) ran_says q → Tells (λ a. Runs sheet before a later) ran_says r → (q ≡ r) × (after ≡ later)
run_told_once sheet before after later q r v w =
    let e = run_once sheet before v.0 w.0 after later v.1 w.1 in
    (v.2 ∙ ap (λ (a : Ran). packed (ran_says a)) e.0 ∙ sym w.2, e.1)
