-- What the definitions say: which lengths pass, where a pair's labels stand, and no second answer and no second memory.
use mathlib.Core.Path.{◌≡◌, refl, sym, ap, ◌∙◌, subst}
use mathlib.Core.Logic.{◌⊎◌, inl, inr, ◌↔◌}
use mathlib.Core.Bool.{not}
use mathlib.Core.List.{List, [], ◌∷◌}
use Prim.Native.Nat.{ℕ, ◌*◌, ◌≤◌, ◌<◌}
use native.Mathlib.Decide.{dec_lt}
use native.Mathlib.Omega.{arith}
use borrow.Author.Tests.{eqb-true, not-false, le-ltb, ltb-false}
use lib.Dec.{eqb}
use lib.ListN.{length, get_or}
use lib.Seq.{ext_get_or}
use Rattle.table.specs.Reply.{Reply, refused}
use Rattle.table.specs.Checks.{numbers, Given, Given.here, Passed, Passed.none, Passed.passes, ◌below◌}
use Rattle.table.proofs.Checks.{given_refuses, passed_accepts, given_or_passed, passed_nth, neither, neither_of, equal}
use Rattle.packing.specs.Packed.{packed}
use Rattle.packing.proofs.Once.{tells_all, tells_once}
use Rattle.book.specs.declared.Book.{Book}
use Rattle.routes.specs.Routed.{route_says, Routes, Found}
use Rattle.routes.proofs.Entries.{route_once}
use Rattle.pairs.specs.Answered.{source_of, destination_of, Answered}
use Rattle.pairs.specs.Pairs.{pairs_in, left_over, pairs_checks, RoutesPairs}

pub pairs_order : (pairs memory : List ℕ) → numbers (pairs_checks pairs memory) ≡ 13 ∷ []
pairs_order pairs memory = refl

-- the labels of the second pair
pub labels_in_order : (s d t e : ℕ) (pairs : List ℕ) → (source_of (s ∷ d ∷ t ∷ e ∷ pairs) 1 ≡ t) × (destination_of (s ∷ d ∷ t ∷ e ∷ pairs) 1 ≡ e)
labels_in_order s d t e pairs = (refl, refl)

-- "the lent memory is not long enough": what passes is so many pairs, and as many answers or more
pub pairs_pass : (pairs memory : List ℕ) → Passed (pairs_checks pairs memory) ↔ ((length pairs ≡ 2 * pairs_in pairs) × (pairs_in pairs ≤ length memory))
pairs_pass pairs memory = (to, from)
  where
    to : Passed (pairs_checks pairs memory) → (length pairs ≡ 2 * pairs_in pairs) × (pairs_in pairs ≤ length memory)
    to p =
        let e = neither (not (eqb (left_over pairs) 0)) (length memory below pairs_in pairs) (passed_nth (pairs_checks pairs memory) 0 p) in
        let even = eqb-true (left_over pairs) 0 (not-false (eqb (left_over pairs) 0) e.0) in
        let room = ltb-false (length memory) (pairs_in pairs) e.1 in
        (omega arith, omega arith)

    from : (length pairs ≡ 2 * pairs_in pairs) × (pairs_in pairs ≤ length memory) → Passed (pairs_checks pairs memory)
    from h =
        let whole = h.0 in
        let room = h.1 in
        let even : left_over pairs ≡ 0 = omega arith in
        passes (neither_of (not (eqb (left_over pairs) 0)) (length memory below pairs_in pairs) (equal even) (le-ltb (length memory) (pairs_in pairs) room)) none

-- each answer is the one that a route between the pair's labels has, with this choice
pub answer_of_pair : (b : Book) (choice : ℕ) (pairs : List ℕ) (count : ℕ) (before after : List ℕ) → Answered b choice pairs count before after → (k : ℕ) → k < count
    → (a : Found) → Routes b (source_of pairs k) (destination_of pairs k) choice a → get_or after k 0 ≡ packed (route_says a)
answer_of_pair b choice pairs count before after v k h a r =
    tells_all (Routes b (source_of pairs k) (destination_of pairs k) choice) route_says (route_once b (source_of pairs k) (destination_of pairs k) choice) (get_or after k 0) (v.answers k h) a r

-- one memory
pub answered_once : (b : Book) (choice : ℕ) (pairs : List ℕ) (count : ℕ) (before after later : List ℕ) → Answered b choice pairs count before after → Answered b choice pairs count before later → after ≡ later
answered_once b choice pairs count before after later v w = ext_get_or 0 after later (v.as_long ∙ sym w.as_long) (λ k h. go k (dec_lt k count))
  where
    go : (k : ℕ) → Dec (k < count) → get_or after k 0 ≡ get_or later k 0
    go k (yes h) =
        tells_once (Routes b (source_of pairs k) (destination_of pairs k) choice) route_says (route_once b (source_of pairs k) (destination_of pairs k) choice) _ _ (v.answers k h) (w.answers k h)
    go k (no h) = v.stays k (omega arith) ∙ sym (w.stays k (omega arith))

-- no second answer, and no second memory
pub pairs_once : (b : Book) (choice : ℕ) (pairs before after later : List ℕ) (q r : ℕ) → RoutesPairs b choice pairs before after q → RoutesPairs b choice pairs before later r → (q ≡ r) × (after ≡ later)
pairs_once b choice pairs before after later q r v w = (v.says ∙ sym w.says, go (given_or_passed (pairs_checks pairs before)))
  where
    go : ((k : ℕ) × Given k (pairs_checks pairs before)) ⊎ Passed (pairs_checks pairs before) → after ≡ later
    go (inl g) = v.refuses g.0 g.1 ∙ sym (w.refuses g.0 g.1)
    go (inr p) = answered_once b choice pairs (pairs_in pairs) before after later (v.routes p) (w.routes p)

module _ (b : Book) (choice : ℕ) (pairs before after : List ℕ) (r : ℕ) (v : RoutesPairs b choice pairs before after r) where
  -- 0 and the answers, where there are whole pairs and room for them
  pub pairs_answered : (count : ℕ) → length pairs ≡ 2 * count → count ≤ length before → (r ≡ 0) × Answered b choice pairs count before after
  pairs_answered count whole room =
      let e : pairs_in pairs ≡ count = omega arith in
      let p = (pairs_pass pairs before).1 (omega arith, omega arith) in
      (v.says ∙ ap packed (passed_accepts refused (Reply.accepted []) (pairs_checks pairs before) p), subst (λ k. Answered b choice pairs k before after) e (v.routes p))

  -- 13 and the memory as it was, where there are not
  pub pairs_unanswered : ((count : ℕ) → length pairs ≡ 2 * count → count ≤ length before → ⊥) → (r ≡ 13) × (after ≡ before)
  pairs_unanswered h = go (given_or_passed (pairs_checks pairs before))
    where
      go : ((k : ℕ) × Given k (pairs_checks pairs before)) ⊎ Passed (pairs_checks pairs before) → (r ≡ 13) × (after ≡ before)
      go (inl (k, here t n)) =
          (v.says ∙ ap packed (given_refuses refused (Reply.accepted []) 13 (pairs_checks pairs before) (here t refl)), v.refuses k (here t n))
      go (inr p) = let w = (pairs_pass pairs before).0 p in absurd (h (pairs_in pairs) w.0 w.1)
      go (inl (k, Rattle.table.specs.Checks.later _ x8)) = elim x8 [ ]
