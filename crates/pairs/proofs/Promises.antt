-- A pair more is answered by a store in the next place; the call refuses by the lengths alone.
use mathlib.Core.Path.{◌≡◌, refl, sym, ap, ◌∙◌, subst}
use mathlib.Core.Logic.{◌≢◌}
use mathlib.Core.Bool.{◌||◌}
use mathlib.Core.List.{List, []}
use Prim.Native.Nat.{ℕ, ◌+◌, ◌*◌, ◌≤◌, ◌<◌}
use native.Mathlib.Decide.{dec_lt}
use native.Mathlib.Omega.{arith}
use borrow.Author.Tests.{lt-ltb}
use lib.ListN.{length, get_or, set, length-set}
use lib.Seq.{get_or-set_same, get_or-set_other}
use Rattle.table.specs.Reply.{Reply, refused}
use Rattle.table.specs.Checks.{Given, Given.here, ◌below◌}
use Rattle.table.proofs.Checks.{given_refuses, passed_accepts, not_given_and_passed, unequal, equal}
use Rattle.packing.specs.Packed.{packed, Tells}
use Rattle.book.specs.declared.Book.{Book}
use Rattle.routes.specs.Routed.{route_says, Routes}
use Rattle.pairs.specs.Answered.{source_of, destination_of, Answered}
use Rattle.pairs.specs.Pairs.{pairs_in, left_over, pairs_checks, RoutesPairs}
use Rattle.pairs.proofs.Pairs.{pairs_pass}

module _ {b : Book} {choice : ℕ} {pairs : List ℕ} where
  pub none_answered : (memory : List ℕ) → Answered b choice pairs 0 memory memory
  none_answered memory = record { as_long = refl; answers = λ k h. absurd (omega arith); stays = λ k h. refl }

  pub one_more : {before after : List ℕ} {j r : ℕ} → Answered b choice pairs j before after → j < length after
      → Tells (Routes b (source_of pairs j) (destination_of pairs j) choice) route_says r → Answered b choice pairs (j + 1) before (set after j r)
  one_more {before} {after} {j} {r} v room t = record { as_long = length-set after j r ∙ v.as_long; answers = λ k h. go k h (dec_lt k j); stays = other }
    where
      go : (k : ℕ) → k < j + 1 → Dec (k < j) → Tells (Routes b (source_of pairs k) (destination_of pairs k) choice) route_says (get_or (set after j r) k 0)
      go k h (yes l) =
          let differ : k ≢ j = λ e. omega arith in
          subst (Tells (Routes b (source_of pairs k) (destination_of pairs k) choice) route_says) (sym (get_or-set_other after j k r 0 differ)) (v.answers k l)
      go k h (no l) =
          let same : j ≡ k = omega arith in
          subst (λ i. Tells (Routes b (source_of pairs i) (destination_of pairs i) choice) route_says (get_or (set after j r) i 0)) same
          (subst (Tells (Routes b (source_of pairs j) (destination_of pairs j) choice) route_says) (sym (get_or-set_same after j r 0 room)) t)

      other : (k : ℕ) → j + 1 ≤ k → get_or (set after j r) k 0 ≡ get_or before k 0
      other k h =
          let differ : k ≢ j = λ e. omega arith in
          get_or-set_other after j k r 0 differ ∙ v.stays k (omega arith)

  -- 13, where the lengths do not pass
  thirteen : {memory : List ℕ} {r : ℕ} → Given 13 (pairs_checks pairs memory) → r ≡ 13 → RoutesPairs b choice pairs memory memory r
  thirteen {memory} g e =
      record {
        says = e ∙ ap packed (sym (given_refuses refused (Reply.accepted []) 13 (pairs_checks pairs memory) g));
        refuses = λ k h. refl;
        routes = λ p. absurd (not_given_and_passed 13 (pairs_checks pairs memory) g p);
      }

  pub odd_refused : {memory : List ℕ} {r : ℕ} → (left_over pairs ≡ 0 → ⊥) → r ≡ 13 → RoutesPairs b choice pairs memory memory r
  odd_refused {memory} h e = thirteen (here (ap (λ x. x || length memory below pairs_in pairs) (unequal h)) refl) e

  pub few_refused : {memory : List ℕ} {r : ℕ} → left_over pairs ≡ 0 → length memory < pairs_in pairs → r ≡ 13 → RoutesPairs b choice pairs memory memory r
  few_refused {memory} even h e = thirteen (here (rw (equal even, lt-ltb (length memory) (pairs_in pairs) h)) refl) e

  pub all_answered : {before after : List ℕ} → length pairs ≡ 2 * pairs_in pairs → pairs_in pairs ≤ length before → Answered b choice pairs (pairs_in pairs) before after
      → RoutesPairs b choice pairs before after 0
  all_answered {before} whole room v =
      let p = (pairs_pass pairs before).1 (whole, room) in
      record {
        says = ap packed (sym (passed_accepts refused (Reply.accepted []) (pairs_checks pairs before) p));
        refuses = λ k g. absurd (not_given_and_passed k (pairs_checks pairs before) g p);
        routes = λ p. v;
      }
