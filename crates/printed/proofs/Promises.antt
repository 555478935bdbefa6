-- A run refuses by its one check, or prints what its header asks.
use Rattle.std.specs.Prelude.{Ok, Err}
use mathlib.Core.Path.{◌≡◌, refl, sym, ap, ◌∙◌}
use mathlib.Core.Bool.{not}
use mathlib.Core.Logic.{◌⊎◌, inl, inr}
use mathlib.Core.List.{List, [], ◌∷◌, ◌++◌}
use Prim.Native.Nat.{ℕ, ◌+◌, ◌≤◌, ◌<◌}
use native.Mathlib.Omega.{arith}
use borrow.Author.Tests.{le-ltb, ltb-false}
use lib.Dec.{eqb}
use lib.ListN.{length, drop, length-append}
use Rattle.table.specs.declared.Refusal.{Refusal}
use Rattle.table.specs.Reply.{Reply.accepted, refused}
use Rattle.table.specs.Checks.{Given, Passed, Passed.none, Passed.passes, ◌below◌}
use Rattle.table.proofs.Checks.{given_or_passed, given_once, not_given_and_passed, passed_nth, neither, zero_one}
use Rattle.actions.specs.Layout.{bytes_before}
use Rattle.sheet.specs.Format.{count_in, each_in, HeaderRead, headed}
use Rattle.sheet.specs.Entries.{header_checks, ReadsHeader}
use Rattle.sheet.proofs.Promises.{header_passed, header_fields}
use Rattle.printed.proofs.Texts.{thirteen_exactly}
use Rattle.printed.specs.Runs.{Prints, room, most_room, run_checks, ran_says, RunsBy, Runs, Ran}

module _ (sheet : List ℕ) (header : HeaderRead) (before : List ℕ) where
  pub runs_short : length before < room header → RunsBy sheet header before (Err Refusal.Room) before
  runs_short h =
      let g = (thirteen_exactly header before).1 h in
      record {
        refuses = λ k j. (ap refused (given_once 13 k (run_checks header before) g j), refl);
        prints = λ p. absurd (not_given_and_passed 13 (run_checks header before) g p);
      }

  pub runs_whole : (text : List ℕ) {after : List ℕ} {bytes : ℕ}
      → room header ≤ length before → Prints sheet header text → bytes ≡ length text → after ≡ text ++ drop (length text) before → bytes ≤ room header
      → RunsBy sheet header before (Ok bytes) after
  runs_whole text h p l leaves short =
      let q : Passed (run_checks header before) = passes (le-ltb (length before) (room header) h) none in
      record {
        refuses = λ k g. absurd (not_given_and_passed k (run_checks header before) g q);
        prints = λ r. (text, p, ap (λ (k : ℕ). accepted (k ∷ [])) l, leaves, omega arith);
      }

pub runs_as : {sheet before after : List ℕ} {r : Ran} {h told : HeaderRead}
    → ReadsHeader sheet h → h ≡ told → RunsBy sheet told before r after → Runs sheet before r after
runs_as {told = told} reads e w = record { header = told; reads = rw e at reads; runs = w }

-- no header that is accepted asks for more room than 4,096 actions do
pub room_within : {sheet : List ℕ} (h : HeaderRead) → ReadsHeader sheet h → room h ≤ most_room
room_within {sheet} (Ok head) q =
    let l = (neither (4096 below count_in sheet) (not (eqb (length sheet) (bytes_before (each_in sheet) (count_in sheet)))) (passed_nth (header_checks sheet) 2 (header_passed q))).0 in
    let few = ltb-false 4096 (count_in sheet) l in
    let same = (header_fields q).1 in
    omega arith
room_within {sheet} (Err why) q = omega arith

-- and 4,096 actions ask for all of it
pub most_is_asked : (n version : ℕ) → room (headed n 4096 version) ≡ most_room
most_is_asked n version = refl

-- where bytes were printed they are a text's, at the front of the memory and within the room
module _ {sheet before after : List ℕ} {r : Ran} {bytes : ℕ} (w : Runs sheet before r after) (e : r ≡ Ok bytes) where
  printed_text : (text : List ℕ) × (bytes ≡ length text) × (after ≡ text ++ drop (length text) before) × (length text ≤ room w.header)
  printed_text = go (given_or_passed (run_checks w.header before))
    where
      go : ((k : ℕ) × Given k (run_checks w.header before)) ⊎ Passed (run_checks w.header before)
          → (text : List ℕ) × (bytes ≡ length text) × (after ≡ text ++ drop (length text) before) × (length text ≤ room w.header)
      go (inl g) =
          let f : accepted (bytes ∷ []) ≡ refused g.0 = sym (ap ran_says e) ∙ (w.runs.refuses g.0 g.1).0 in
          absurd (zero_one cc)
      go (inr p) =
          let q = w.runs.prints p in
          let f : accepted (bytes ∷ []) ≡ accepted (length q.0 ∷ []) = sym (ap ran_says e) ∙ q.2 in
          let within = q.4 in
          (q.0, cc, q.3, omega arith)

  -- what was printed lies within the memory
  pub runs_fit : bytes ≤ length after
  runs_fit =
      let text = printed_text.0 in
      let b : bytes ≡ length text = printed_text.1 in
      let l : length after ≡ length text + length (drop (length text) before) = ap length printed_text.2 ∙ length-append text (drop (length text) before) in
      omega arith

  -- and within the room for 4,096 actions
  pub runs_within : bytes ≤ most_room
  runs_within =
      let b = printed_text.1 in
      let l = printed_text.3 in
      let m = room_within w.header w.reads in
      omega arith
