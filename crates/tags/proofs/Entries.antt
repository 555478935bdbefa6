-- Theorems over the entries: what two calls say together, and that no promise leaves a second answer.
use Rattle.std.specs.Prelude.{Ok, Err}
use mathlib.Core.Path.{◌≡◌, refl, sym, ap, subst, ◌∙◌}
use mathlib.Core.Bool.{Bool, true, false, ◌||◌, true≢false}
use mathlib.Core.List.{List, [], ◌∷◌, ◌++◌}
use Prim.Native.Nat.{ℕ, ◌≤◌, ◌<◌}
use native.Mathlib.Omega.{arith}
use borrow.Author.Tests.{le-ltb, ltb-false, lt-leb, leb-false}
use lib.ListN.{length, take, drop, get_or, length-append}
use lib.Seq.{length-take-le, take_at}
use Rattle.table.proofs.Answers.{answer_tells}
use Rattle.table.specs.Numbers.{number_of}
use Rattle.table.specs.Reply.{Reply, Reply.accepted, refused, Answer}
use Rattle.table.specs.Checks.{checked, Passed, Passed.none, Passed.passes, ◌when◌, ◌below◌}
use Rattle.table.proofs.Numbers.{number_tells}
use Rattle.table.proofs.Checks.{passed_accepts, accepted_passed, passed_nth, zero_one}
use Rattle.fabric.specs.Labels.{size}
use Rattle.fabric.specs.Walks.{Codes, Steps}
use Rattle.scheme.specs.Tags.{tags, destination, state, steps_of, normal_tag}
use Rattle.tags.specs.Entries.{tag_says, some_above_two, tag_to_steps_checks, TagToSteps, steps_to_tag_checks, StepsToTag, normal_form_checks, NormalForm, Tag}
use Rattle.scheme.proofs.Steps.{steps_of_tag}
use Rattle.scheme.proofs.NormalTags.{normal_is_tag, steps_come_back, normal_keeps_destination, straight_cleared, turns_kept}

-- an answer is known by what it says
pub tag_tells : (a b : Tag) → tag_says a ≡ tag_says b → a ≡ b
tag_tells (Ok t) (Ok u) e = let z : t ≡ u = cc in ap Ok z
tag_tells (Ok t) (Err r) e = absurd (zero_one cc)
tag_tells (Err r) (Ok t) e = absurd (zero_one cc)
tag_tells (Err q) (Err r) e = let z : number_of q ≡ number_of r = cc in ap Err (number_tells q r z)

-- no second answer
pub tag_to_steps_once : (n s tag : ℕ) (lent : List ℕ) (a b : Answer) (left₁ left₂ : List ℕ)
    → TagToSteps n s tag lent a left₁ → TagToSteps n s tag lent b left₂ → (a ≡ b) × (left₁ ≡ left₂)
tag_to_steps_once n s tag lent a b left₁ left₂ p q = (answer_tells a b (p.says ∙ sym q.says), p.leaves ∙ sym q.leaves)

pub steps_to_tag_once : (n s : ℕ) (lent : List ℕ) (a b : Tag) → StepsToTag n s lent a → StepsToTag n s lent b → a ≡ b
steps_to_tag_once n s lent a b p q = tag_tells a b (p.says ∙ sym q.says)

pub normal_form_once : (n s tag : ℕ) (a b : Tag) → NormalForm n s tag a → NormalForm n s tag b → a ≡ b
normal_form_once n s tag a b p q = tag_tells a b (p.says ∙ sym q.says)

-- "It reads n bytes and none after them."
pub later_bytes_unread : (n s : ℕ) (front x y : List ℕ) (a b : Tag) → length front ≡ n
    → StepsToTag n s (front ++ x) a → StepsToTag n s (front ++ y) b → a ≡ b
later_bytes_unread n s front x y a b l p q = tag_tells a b (p.says ∙ alone x ∙ sym (q.says ∙ alone y))
  where
    answers : List ℕ → Reply
    answers m = checked (steps_to_tag_checks n s m) refused (accepted (normal_tag n s (take n m) ∷ []))

    alone : (z : List ℕ) → answers (front ++ z) ≡ answers (front ++ [])
    alone z =
        let long : (w : List ℕ) → (length (front ++ w) below n) ≡ false = λ w. le-ltb (length (front ++ w)) n (simp length-append (omega arith)) in
        rw (long z, long [], take_at front z n l, take_at front [] n l)

-- codes are what the check for codes lets through
pub codes_pass : (cs : List ℕ) → Codes cs → some_above_two cs ≡ false
codes_pass [] h = refl
codes_pass (c ∷ cs) h = rw (le-ltb 2 c (omega arith)) (codes_pass cs h.1)

pub pass_codes : (cs : List ℕ) → some_above_two cs ≡ false → Codes cs
pass_codes [] h = tt
pass_codes (c ∷ cs) h = go (2 below c) refl h (pass_codes cs)
  where
    go : (b : Bool) → (2 below c) ≡ b → (b || some_above_two cs) ≡ false → (some_above_two cs ≡ false → Codes cs) → Codes (c ∷ cs)
    go true e f rest = absurd (true≢false f)
    go false e f rest = (let l = ltb-false 2 c e in omega arith, rest f)

-- what an accepted call shows: the checks are passed, and this is what it gave
module _ (n s tag : ℕ) (lent left : List ℕ) (done : TagToSteps n s tag lent (Ok tt) left) where
  tag_to_steps_passed : Passed (tag_to_steps_checks n s tag lent)
  tag_to_steps_passed = accepted_passed (tag_to_steps_checks n s tag lent) [] [] done.says

  pub wrote : left ≡ steps_of n s tag ++ drop n lent
  wrote = done.leaves ∙ passed_accepts (λ k. lent) (steps_of n s tag ++ drop n lent) (tag_to_steps_checks n s tag lent) tag_to_steps_passed

module _ (n s : ℕ) (lent : List ℕ) (tag : ℕ) (given : StepsToTag n s lent (Ok tag)) where
  steps_to_tag_passed : Passed (steps_to_tag_checks n s lent)
  steps_to_tag_passed = accepted_passed (steps_to_tag_checks n s lent) (normal_tag n s (take n lent) ∷ []) (tag ∷ []) given.says

  pub gave_normal : tag ≡ normal_tag n s (take n lent)
  gave_normal =
      let e : accepted (tag ∷ []) ≡ accepted (normal_tag n s (take n lent) ∷ []) =
      given.says ∙ passed_accepts refused (accepted (normal_tag n s (take n lent) ∷ [])) (steps_to_tag_checks n s lent) steps_to_tag_passed in
      cc

  read_are_steps : Steps n (take n lent)
  read_are_steps =
      record {
        stages = length-take-le n lent (ltb-false (length lent) n (passed_nth (steps_to_tag_checks n s lent) 2 steps_to_tag_passed));
        codes = pass_codes (take n lent) (passed_nth (steps_to_tag_checks n s lent) 3 steps_to_tag_passed);
      }

module _ (n s tag t : ℕ) (given : NormalForm n s tag (Ok t)) where
  normal_form_passed : Passed (normal_form_checks n s tag)
  normal_form_passed = accepted_passed (normal_form_checks n s tag) (normal_tag n s (steps_of n s tag) ∷ []) (t ∷ []) given.says

  pub formed : t ≡ normal_tag n s (steps_of n s tag)
  formed =
      let e : accepted (t ∷ []) ≡ accepted (normal_tag n s (steps_of n s tag) ∷ []) =
      given.says ∙ passed_accepts refused (accepted (normal_tag n s (steps_of n s tag) ∷ [])) (normal_form_checks n s tag) normal_form_passed in
      cc

  label : s < size n
  label = leb-false (size n) s (passed_nth (normal_form_checks n s tag) 1 normal_form_passed)

  -- the normal form keeps destination and links
  pub form_keeps_destination : destination n t ≡ destination n tag
  form_keeps_destination = ap (destination n) formed ∙ normal_keeps_destination n s label tag

  pub form_keeps_links : steps_of n s t ≡ steps_of n s tag
  form_keeps_links = ap (steps_of n s) formed ∙ steps_come_back n s label (steps_of n s tag) (steps_of_tag n s tag)

  -- it clears exactly the state bits of straight steps
  pub form_clears_straight : (k : ℕ) → k < n → get_or (steps_of n s tag) k 0 ≡ 0 → state n t k ≡ 0
  form_clears_straight k h z = ap (λ (x : ℕ). state n x k) formed ∙ straight_cleared n s label tag k h z

  pub form_keeps_turns : (k : ℕ) → k < n → (get_or (steps_of n s tag) k 0 ≡ 0 → ⊥) → state n t k ≡ state n tag k
  form_keeps_turns k h z = ap (λ (x : ℕ). state n x k) formed ∙ turns_kept n s label tag k h z

  form_accepted : (u : ℕ) → u < tags n → steps_of n s u ≡ steps_of n s tag → (b : Tag) → NormalForm n s u b → b ≡ Ok t
  form_accepted u l e b q =
      let passed : Passed (normal_form_checks n s u) = passes (passed_nth (normal_form_checks n s tag) 0 normal_form_passed) (passes (passed_nth (normal_form_checks n s tag) 1 normal_form_passed) (passes (lt-leb (tags n) u l) none)) in
      tag_tells b (Ok t)
      (q.says
      ∙ passed_accepts refused (accepted (normal_tag n s (steps_of n s u) ∷ [])) (normal_form_checks n s u) passed
      ∙ ap (λ (cs : List ℕ). accepted (normal_tag n s cs ∷ [])) e
      ∙ ap (λ (x : ℕ). accepted (x ∷ [])) (sym formed))

  -- it is idempotent
  pub form_idempotent : (b : Tag) → NormalForm n s t b → b ≡ Ok t
  form_idempotent b q =
      form_accepted t (subst (λ (x : ℕ). x < tags n) (sym formed) (normal_is_tag n s label (steps_of n s tag) (steps_of_tag n s tag).stages)) form_keeps_links b q

-- "Steps that are turned into a tag and back are the same steps": the tag of steps, written into any memory with room, gives those steps
pub steps_tag_steps : (n s : ℕ) (lent : List ℕ) (tag : ℕ) → StepsToTag n s lent (Ok tag)
    → (other left : List ℕ) (a : Answer) → n ≤ length other → TagToSteps n s tag other a left
    → (a ≡ Ok tt) × (left ≡ take n lent ++ drop n other)
steps_tag_steps n s lent tag given other left a room p =
    let e = gave_normal n s lent tag given in
    let ok : (k : ℕ) → (get_or (steps_to_tag_checks n s lent) k (0 when false)).holds ≡ false = λ k. passed_nth (steps_to_tag_checks n s lent) k (steps_to_tag_passed n s lent tag given) in
    let label : s < size n = leb-false (size n) s (ok 1) in
    let steps = read_are_steps n s lent tag given in
    let small : tag < tags n = subst (λ (x : ℕ). x < tags n) (sym e) (normal_is_tag n s label (take n lent) steps.stages) in
    let passed : Passed (tag_to_steps_checks n s tag other) = passes (ok 0) (passes (ok 1) (passes (lt-leb (tags n) tag small) (passes (le-ltb (length other) n room) none))) in (
      answer_tells a (Ok tt) (p.says ∙ passed_accepts refused (accepted []) (tag_to_steps_checks n s tag other) passed),
      p.leaves
          ∙ passed_accepts (λ k. other) (steps_of n s tag ++ drop n other) (tag_to_steps_checks n s tag other) passed
          ∙ ap (λ (cs : List ℕ). cs ++ drop n other) (ap (steps_of n s) e ∙ steps_come_back n s label (take n lent) steps),
    )

-- tag to steps to tag: what comes back is the answer of the normal form, of which the theorems above say what it clears and
-- what it keeps
pub tag_steps_tag : (n s tag : ℕ) (lent left : List ℕ) → TagToSteps n s tag lent (Ok tt) left
    → (a b : Tag) → StepsToTag n s left a → NormalForm n s tag b → a ≡ b
tag_steps_tag n s tag lent left done a b p q =
    let cs : List ℕ = steps_of n s tag in
    let steps = steps_of_tag n s tag in
    let ok : (k : ℕ) → (get_or (tag_to_steps_checks n s tag lent) k (0 when false)).holds ≡ false = λ k. passed_nth (tag_to_steps_checks n s tag lent) k (tag_to_steps_passed n s tag lent left done) in
    let e = wrote n s tag lent left done in
    let front : take n left ≡ cs = ap (take n) e ∙ take_at cs (drop n lent) n steps.stages in
    let l = steps.stages in
    let long : n ≤ length left = rw e (simp length-append (omega arith)) in
    let codes : some_above_two (take n left) ≡ false = rw front (codes_pass cs steps.codes) in
    let passed : Passed (steps_to_tag_checks n s left) = passes (ok 0) (passes (ok 1) (passes (le-ltb (length left) n long) (passes codes none))) in
    let passed' : Passed (normal_form_checks n s tag) = passes (ok 0) (passes (ok 1) (passes (ok 2) none)) in
    tag_tells a b
    (p.says
    ∙ passed_accepts refused (accepted (normal_tag n s (take n left) ∷ [])) (steps_to_tag_checks n s left) passed
    ∙ ap (λ (x : List ℕ). accepted (normal_tag n s x ∷ [])) front
    ∙ sym (q.says ∙ passed_accepts refused (accepted (normal_tag n s cs ∷ [])) (normal_form_checks n s tag) passed'))
