-- What each entry answers, exactly: its checks in the order of docs/RULES.md, when the line of each holds, when it accepts and with
-- what, and what is left in the lent memory.
use Rattle.std.specs.Prelude.{Ok, Err}
use mathlib.Core.Path.{◌≡◌, refl, sym, ap, ◌∙◌}
use mathlib.Core.Bool.{Bool, true, false, ◌||◌, true≢false}
use mathlib.Core.List.{List, [], ◌∷◌, ◌++◌}
use mathlib.Core.Logic.{◌⊎◌, inl, inr, ◌↔◌}
use Prim.Native.Nat.{ℕ, zero, suc, ◌+◌, ◌-◌, ◌≤◌, ◌<◌}
use native.Mathlib.Omega.{arith}
use borrow.Author.Tests.{ltb-true, lt-ltb, le-ltb, ltb-false, lt-leb, leb-false}
use lib.ListN.{length, take, drop, get_or, get_or-append}
use lib.Seq.{length-take-le, get_or-append-add, get_or-drop}
use Rattle.table.specs.declared.Refusal.{Refusal}
use Rattle.table.specs.Numbers.{number_of}
use Rattle.table.specs.Reply.{Reply.accepted, refused, Numbered, answer_says, Answer}
use Rattle.table.specs.Checks.{Given, Passed, Passed.none, Passed.passes, numbers, ◌when◌, ◌below◌}
use Rattle.table.proofs.Numbers.{above_zero}
use Rattle.table.proofs.Checks.{given_refuses, passed_accepts, given_or_passed, accepted_passed, accepted_says, passed_nth, one_of, neither_of, zero_one}
use Rattle.table.proofs.Meaning.{LineHolds, below_exactly, not_below_exactly}
use Rattle.fabric.specs.Labels.{size, outside_sizes}
use Rattle.fabric.specs.Walks.{Codes}
use Rattle.fabric.proofs.Tests.{outside_exactly, some_stages, few_stages}
use Rattle.scheme.specs.Tags.{tags, steps_of, normal_tag, IsNormal}
use Rattle.scheme.proofs.Steps.{steps_of_tag}
use Rattle.scheme.proofs.NormalTags.{normal_tag_is, normal_tag_only}
use Rattle.tags.specs.Entries.{tag_says, some_above_two, tag_to_steps_checks, TagToSteps, steps_to_tag_checks, StepsToTag, normal_form_checks, NormalForm, Tag}
use Rattle.tags.proofs.Entries.{codes_pass, pass_codes, wrote}

-- an answer that refuses has a number of the table
pub tag_numbered : (a : Tag) → Numbered (tag_says a)
tag_numbered (Ok t) = tt
tag_numbered (Err r) = above_zero r

-- "a code that is not 0, 1 or 2" among the first n bytes
pub some_above_exactly : (n : ℕ) (m : List ℕ) → (some_above_two (take n m) ≡ true) ↔ ((k : ℕ) × (k < n) × (2 < get_or m k 0))
some_above_exactly n m = (told n m, λ w. back n m w.0 w.1 w.2)
  where
    head : (i c : ℕ) (l : List ℕ) (b : Bool) → (2 below c) ≡ b → (b || some_above_two (take i l)) ≡ true
        → (some_above_two (take i l) ≡ true → (k : ℕ) × (k < i) × (2 < get_or l k 0)) → (k : ℕ) × (k < suc i) × (2 < get_or (c ∷ l) k 0)
    head i c l true e f rest = (0, omega arith, ltb-true 2 c e)
    head i c l false e f rest = let w = rest f in (suc w.0, let h = w.1 in omega arith, w.2)

    told : (i : ℕ) (l : List ℕ) → some_above_two (take i l) ≡ true → (k : ℕ) × (k < i) × (2 < get_or l k 0)
    told zero l h = absurd (true≢false (sym h))
    told (suc i) [] h = absurd (true≢false (sym h))
    told (suc i) (c ∷ l) h = head i c l (2 below c) refl h (told i l)

    other : (a b : Bool) → b ≡ true → (a || b) ≡ true
    other true b e = refl
    other false b e = e

    back : (i : ℕ) (l : List ℕ) (k : ℕ) → k < i → 2 < get_or l k 0 → some_above_two (take i l) ≡ true
    back zero l k h g = absurd (omega arith)
    back (suc i) [] k h g = absurd (omega arith)
    back (suc i) (c ∷ l) zero h g = one_of (2 below c) (some_above_two (take i l)) (lt-ltb 2 c g)
    back (suc i) (c ∷ l) (suc k) h g = other (2 below c) (some_above_two (take i l)) (back i l k (omega arith) g)

-- a size from 1 to 12 passes the first check
sizes_pass : (n : ℕ) → 1 ≤ n → n ≤ 12 → outside_sizes n ≡ false
sizes_pass n h l = neither_of (n below 1) (12 below n) (le-ltb n 1 h) (le-ltb 12 n l)

-- "Tag to steps (n, source, tag, memory): 1, 10, 12, 13"
module _ (n s tag : ℕ) (lent : List ℕ) where
  pub tag_to_steps_order : numbers (tag_to_steps_checks n s tag lent) ≡ 1 ∷ 10 ∷ 12 ∷ 13 ∷ []
  tag_to_steps_order = refl

  pub tag_to_steps_lines :
      (LineHolds (tag_to_steps_checks n s tag lent) 0 ↔ ((n < 1) ⊎ (12 < n)))
      × (LineHolds (tag_to_steps_checks n s tag lent) 1 ↔ (size n ≤ s))
      × (LineHolds (tag_to_steps_checks n s tag lent) 2 ↔ (tags n ≤ tag))
      × (LineHolds (tag_to_steps_checks n s tag lent) 3 ↔ (length lent < n))
  tag_to_steps_lines = (outside_exactly n, not_below_exactly s (size n), not_below_exactly tag (tags n), below_exactly (length lent) n)

  module _ (left : List ℕ) (a : Answer) (promised : TagToSteps n s tag lent a left) where
    -- it accepts exactly a size, a source and a tag of the fabric and memory with room for n bytes
    pub written_exactly : (answer_says a ≡ accepted []) ↔ ((1 ≤ n) × (n ≤ 12) × (s < size n) × (tag < tags n) × (n ≤ length lent))
    written_exactly = (told, λ w. promised.says ∙ passed_accepts refused (accepted []) (tag_to_steps_checks n s tag lent) (back w))
      where
        told : answer_says a ≡ accepted [] → (1 ≤ n) × (n ≤ 12) × (s < size n) × (tag < tags n) × (n ≤ length lent)
        told e =
            let p = accepted_passed (tag_to_steps_checks n s tag lent) [] [] (sym e ∙ promised.says) in
            let ok : (k : ℕ) → (get_or (tag_to_steps_checks n s tag lent) k (0 when false)).holds ≡ false = λ k. passed_nth (tag_to_steps_checks n s tag lent) k p in
            (some_stages refl (ok 0), few_stages refl (ok 0), leb-false (size n) s (ok 1), leb-false (tags n) tag (ok 2), ltb-false (length lent) n (ok 3))

        back : (1 ≤ n) × (n ≤ 12) × (s < size n) × (tag < tags n) × (n ≤ length lent) → Passed (tag_to_steps_checks n s tag lent)
        back w =
            passes (sizes_pass n w.0 w.1)
            (passes (lt-leb (size n) s w.2) (passes (lt-leb (tags n) tag w.3) (passes (le-ltb (length lent) n w.4) none)))

  -- "On a refusal no byte of lent memory is written"
  pub refused_untouched : (left : List ℕ) (r : Refusal) → TagToSteps n s tag lent (Err r) left → left ≡ lent
  refused_untouched left r promised = go (given_or_passed (tag_to_steps_checks n s tag lent))
    where
      go : ((k : ℕ) × Given k (tag_to_steps_checks n s tag lent)) ⊎ Passed (tag_to_steps_checks n s tag lent) → left ≡ lent
      go (inl g) = promised.leaves ∙ given_refuses (λ k. lent) (steps_of n s tag ++ drop n lent) g.0 (tag_to_steps_checks n s tag lent) g.1
      go (inr p) =
          let e : refused (number_of r) ≡ accepted [] = promised.says ∙ passed_accepts refused (accepted []) (tag_to_steps_checks n s tag lent) p in
          absurd (zero_one cc)

  -- "The first n bytes of the memory are written", the codes of the steps, and every other byte stays
  module _ (left : List ℕ) (done : TagToSteps n s tag lent (Ok tt) left) where
    pub front_written : (k : ℕ) → k < n → get_or left k 0 ≡ get_or (steps_of n s tag) k 0
    front_written k h =
        let l = (steps_of_tag n s tag).stages in
        ap (λ (x : List ℕ). get_or x k 0) (wrote n s tag lent left done) ∙ get_or-append (steps_of n s tag) (drop n lent) 0 k (omega arith)

    pub rest_stays : (k : ℕ) → n ≤ k → get_or left k 0 ≡ get_or lent k 0
    rest_stays k h =
        let l = (steps_of_tag n s tag).stages in
        ap (λ (x : List ℕ). get_or x k 0) (wrote n s tag lent left done)
        ∙ ap (λ (x : ℕ). get_or (steps_of n s tag ++ drop n lent) x 0) {x = k} {y = length (steps_of n s tag) + (k - n)} (omega arith)
        ∙ get_or-append-add (steps_of n s tag) (drop n lent) (k - n) 0
        ∙ get_or-drop n lent (k - n) 0
        ∙ ap (λ (x : ℕ). get_or lent x 0) {x = n + (k - n)} {y = k} (omega arith)

-- "Steps to tag (n, source, memory): 1, 10, 13, 12"
module _ (n s : ℕ) (lent : List ℕ) where
  pub steps_to_tag_order : numbers (steps_to_tag_checks n s lent) ≡ 1 ∷ 10 ∷ 13 ∷ 12 ∷ []
  steps_to_tag_order = refl

  pub steps_to_tag_lines :
      (LineHolds (steps_to_tag_checks n s lent) 0 ↔ ((n < 1) ⊎ (12 < n)))
      × (LineHolds (steps_to_tag_checks n s lent) 1 ↔ (size n ≤ s))
      × (LineHolds (steps_to_tag_checks n s lent) 2 ↔ (length lent < n))
      × (LineHolds (steps_to_tag_checks n s lent) 3 ↔ ((k : ℕ) × (k < n) × (2 < get_or lent k 0)))
  steps_to_tag_lines = (outside_exactly n, not_below_exactly s (size n), below_exactly (length lent) n, some_above_exactly n lent)

  -- it accepts exactly n codes from a source of the fabric, with their normal tag
  pub normal_tag_exactly : (a : Tag) → StepsToTag n s lent a → (t : ℕ)
      → (tag_says a ≡ accepted (t ∷ []))
      ↔ ((1 ≤ n) × (n ≤ 12) × (s < size n) × (n ≤ length lent) × Codes (take n lent) × IsNormal n s (take n lent) t)
  normal_tag_exactly a promised t = (told, back)
    where
      told : tag_says a ≡ accepted (t ∷ []) → (1 ≤ n) × (n ≤ 12) × (s < size n) × (n ≤ length lent) × Codes (take n lent) × IsNormal n s (take n lent) t
      told e =
          let p = accepted_passed (steps_to_tag_checks n s lent) (normal_tag n s (take n lent) ∷ []) (t ∷ []) (sym e ∙ promised.says) in
          let ok : (k : ℕ) → (get_or (steps_to_tag_checks n s lent) k (0 when false)).holds ≡ false = λ k. passed_nth (steps_to_tag_checks n s lent) k p in
          let said : (t ∷ []) ≡ (normal_tag n s (take n lent) ∷ []) = accepted_says (steps_to_tag_checks n s lent) (normal_tag n s (take n lent) ∷ []) (t ∷ []) (sym e ∙ promised.says) in
          let is : t ≡ normal_tag n s (take n lent) = cc in
          let source : s < size n = leb-false (size n) s (ok 1) in
          let room : n ≤ length lent = ltb-false (length lent) n (ok 2) in
          let codes : Codes (take n lent) = pass_codes (take n lent) (ok 3) in
          (some_stages refl (ok 0), few_stages refl (ok 0), source, room, codes, rw is (normal_tag_is n s source (take n lent) (record { stages = length-take-le n lent room; codes = codes })))

      back : (1 ≤ n) × (n ≤ 12) × (s < size n) × (n ≤ length lent) × Codes (take n lent) × IsNormal n s (take n lent) t → tag_says a ≡ accepted (t ∷ [])
      back w =
          promised.says
          ∙ passed_accepts refused (accepted (normal_tag n s (take n lent) ∷ [])) (steps_to_tag_checks n s lent)
          (passes (sizes_pass n w.0 w.1) (passes (lt-leb (size n) s w.2) (passes (le-ltb (length lent) n w.3) (passes (codes_pass (take n lent) w.4) none))))
          ∙ ap (λ (x : ℕ). accepted (x ∷ [])) (sym (normal_tag_only n s w.2 (take n lent) t w.5))

-- "Normal form (n, source, tag): 1, 10, 12"
module _ (n s tag : ℕ) where
  pub normal_form_order : numbers (normal_form_checks n s tag) ≡ 1 ∷ 10 ∷ 12 ∷ []
  normal_form_order = refl

  pub normal_form_lines :
      (LineHolds (normal_form_checks n s tag) 0 ↔ ((n < 1) ⊎ (12 < n)))
      × (LineHolds (normal_form_checks n s tag) 1 ↔ (size n ≤ s))
      × (LineHolds (normal_form_checks n s tag) 2 ↔ (tags n ≤ tag))
  normal_form_lines = (outside_exactly n, not_below_exactly s (size n), not_below_exactly tag (tags n))

  -- it accepts exactly a size, a source and a tag of the fabric, with the normal tag of the tag's steps
  pub normal_form_exactly : (a : Tag) → NormalForm n s tag a → (t : ℕ)
      → (tag_says a ≡ accepted (t ∷ [])) ↔ ((1 ≤ n) × (n ≤ 12) × (s < size n) × (tag < tags n) × IsNormal n s (steps_of n s tag) t)
  normal_form_exactly a promised t = (told, back)
    where
      told : tag_says a ≡ accepted (t ∷ []) → (1 ≤ n) × (n ≤ 12) × (s < size n) × (tag < tags n) × IsNormal n s (steps_of n s tag) t
      told e =
          let p = accepted_passed (normal_form_checks n s tag) (normal_tag n s (steps_of n s tag) ∷ []) (t ∷ []) (sym e ∙ promised.says) in
          let ok : (k : ℕ) → (get_or (normal_form_checks n s tag) k (0 when false)).holds ≡ false = λ k. passed_nth (normal_form_checks n s tag) k p in
          let said : (t ∷ []) ≡ (normal_tag n s (steps_of n s tag) ∷ []) = accepted_says (normal_form_checks n s tag) (normal_tag n s (steps_of n s tag) ∷ []) (t ∷ []) (sym e ∙ promised.says) in
          let is : t ≡ normal_tag n s (steps_of n s tag) = cc in
          let source : s < size n = leb-false (size n) s (ok 1) in
          (some_stages refl (ok 0), few_stages refl (ok 0), source, leb-false (tags n) tag (ok 2), rw is (normal_tag_is n s source (steps_of n s tag) (steps_of_tag n s tag)))

      back : (1 ≤ n) × (n ≤ 12) × (s < size n) × (tag < tags n) × IsNormal n s (steps_of n s tag) t → tag_says a ≡ accepted (t ∷ [])
      back w =
          promised.says
          ∙ passed_accepts refused (accepted (normal_tag n s (steps_of n s tag) ∷ [])) (normal_form_checks n s tag)
          (passes (sizes_pass n w.0 w.1) (passes (lt-leb (size n) s w.2) (passes (lt-leb (tags n) tag w.3) none)))
          ∙ ap (λ (x : ℕ). accepted (x ∷ [])) (sym (normal_tag_only n s w.2 (steps_of n s tag) t w.4))
