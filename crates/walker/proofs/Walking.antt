-- A walk along a tag's steps: its links so far are clear, and it ends where docs/RULES.md says.
use Rattle.std.specs.Prelude.{Ok, Err}
use Rattle.walks.specs.declared.NotClear.{NotClear}
use mathlib.Core.Path.{◌≡◌, sym, ap, ap₂, subst, ◌∙◌}
use mathlib.Core.Bool.{Bool, cond}
use Prim.Native.Nat.{ℕ, ◌+◌, ◌<◌}
use native.Mathlib.Decide.{ℕ_discrete}
use native.Mathlib.Omega.{arith}
use borrow.Author.Count.{below_more}
use borrow.Author.Tests.{eq-eqb, ne_eqb}
use lib.Dec.{eqb}
use lib.ListN.{length, get_or}
use lib.Seq.{take_all}
use Rattle.fabric.specs.Labels.{bit}
use Rattle.fabric.specs.Links.{lands}
use Rattle.fabric.specs.Walks.{walked, switch_at}
use Rattle.scheme.specs.Scheme.{link}
use Rattle.scheme.specs.Tags.{destination, state, steps_of}
use Rattle.scheme.proofs.Steps.{steps_of_tag, step_on}
use Rattle.paths.specs.Clear.{Rule, Clear}
use Rattle.walks.specs.Entries.{FirstStopped, Walked, Ended}

module _ (n : ℕ) (stops : Rule) (s tag : ℕ) where
  -- the first i links are clear
  abbrev pub ClearUpTo : ℕ → Type 0
  ClearUpTo i = (k : ℕ) → k < i → stops k (switch_at n s (steps_of n s tag) k) (get_or (steps_of n s tag) k 0) ≡ 0

  module _ (i j code : ℕ) (inside : i < n) (at : j ≡ switch_at n s (steps_of n s tag) i) (uses : code ≡ link (bit i j) (bit i tag) (state n tag i)) where
    same_link : stops i j code ≡ stops i (switch_at n s (steps_of n s tag) i) (get_or (steps_of n s tag) i 0)
    same_link = ap₂ (stops i) at (step_on n s tag i j code inside at uses).0

    pub clear_more : ClearUpTo i → stops i j code ≡ 0 → ClearUpTo (i + 1)
    clear_more before free = below_more (λ k. stops k (switch_at n s (steps_of n s tag) k) (get_or (steps_of n s tag) k 0) ≡ 0) i before (sym same_link ∙ free)

    pub stopped_here : (number : ℕ) → ClearUpTo i → number ≡ stops i j code → (number ≡ 0 → ⊥) → FirstStopped n stops s (steps_of n s tag) i number
    stopped_here number before named held = record { stage = inside; number = sym (named ∙ same_link); stopped = held; before = λ k h. before k (omega arith) }

    pub next_switch : lands n i code j ≡ switch_at n s (steps_of n s tag) (i + 1)
    next_switch = (step_on n s tag i j code inside at uses).1

  -- the end of the walk
  pub walk_ends : (i j : ℕ) (a : Ended) → i ≡ n → j ≡ switch_at n s (steps_of n s tag) i → ClearUpTo i
      → a ≡ cond (eqb j (destination n tag)) (Ok tt) (Err NotClear.Astray) → Walked n stops s tag a
  walk_ends i j a e at clear answers = go (ℕ_discrete j (destination n tag))
    where
      l : length (steps_of n s tag) ≡ n
      l = (steps_of_tag n s tag).stages

      all : Clear n stops s (steps_of n s tag)
      all k h = let m = l in clear k (omega arith)

      arrives : j ≡ walked n 0 s (steps_of n s tag)
      arrives = at ∙ ap (walked n 0 s) (take_all i (steps_of n s tag) (let m = l in omega arith))

      go : Dec (j ≡ destination n tag) → Walked n stops s tag a
      go (yes f) = subst (Walked n stops s tag) (sym (answers ∙ ap (λ (b : Bool). cond b (Ok tt) (Err NotClear.Astray)) (eq-eqb j (destination n tag) f))) (all, sym arrives ∙ f)
      go (no f) = subst (Walked n stops s tag) (sym (answers ∙ ap (λ (b : Bool). cond b (Ok tt) (Err NotClear.Astray)) (ne_eqb j (destination n tag) f))) (all, λ x. f (arrives ∙ x))
