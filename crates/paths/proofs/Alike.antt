-- Clear walks link by link, and rules under which the same links are stopped.
use mathlib.Core.Path.{◌≡◌, sym, ap, ap₂, ◌∙◌}
use mathlib.Core.List.{List, [], ◌∷◌, ◌++◌}
use mathlib.Core.Logic.{◌↔◌}
use Prim.Native.Nat.{ℕ, ◌+◌, ◌<◌}
use native.Mathlib.Decide.{ℕ_discrete}
use native.Mathlib.Omega.{arith}
use lib.ListN.{length, get_or, length-append, get_or-append}
use lib.Seq.{take-length, get_or_at}
use Rattle.fabric.specs.Walks.{walked, switch_at}
use Rattle.paths.specs.Clear.{Rule, Alike, Clear}
use Rattle.paths.proofs.Walks.{switch_of_longer}

-- a walk of no links is clear, and one with a link more is where that link is clear too
module _ (n : ℕ) (stops : Rule) (s : ℕ) where
  pub clear_none : Clear n stops s []
  clear_none k h = absurd (omega arith)

  pub clear_next : (cs : List ℕ) (c : ℕ) → Clear n stops s (cs ++ (c ∷ [])) ↔ (Clear n stops s cs × (stops (length cs) (walked n 0 s cs) c ≡ 0))
  clear_next cs c = (
    λ h. ((λ k l. sym (before k l) ∙ h k (omega (arith, longer))), sym last ∙ h (length cs) (omega (arith, longer))),
    λ w k l. at w k l (ℕ_discrete k (length cs)),
  )
    where
      longer : length (cs ++ (c ∷ [])) ≡ length cs + 1
      longer = length-append cs (c ∷ [])

      before : (k : ℕ) → k < length cs → stops k (switch_at n s (cs ++ (c ∷ [])) k) (get_or (cs ++ (c ∷ [])) k 0) ≡ stops k (switch_at n s cs k) (get_or cs k 0)
      before k l = ap₂ (stops k) (switch_of_longer n s cs (c ∷ []) k (omega arith)) (get_or-append cs (c ∷ []) 0 k l)

      last : stops (length cs) (switch_at n s (cs ++ (c ∷ [])) (length cs)) (get_or (cs ++ (c ∷ [])) (length cs) 0) ≡ stops (length cs) (walked n 0 s cs) c
      last =
          ap₂ (stops (length cs)) (switch_of_longer n s cs (c ∷ []) (length cs) (omega arith) ∙ ap (walked n 0 s) (take-length cs))
          (get_or_at cs c [] 0 (length cs) (omega arith))

      at : Clear n stops s cs × (stops (length cs) (walked n 0 s cs) c ≡ 0) → (k : ℕ) → k < length (cs ++ (c ∷ [])) → Dec (k ≡ length cs)
          → stops k (switch_at n s (cs ++ (c ∷ [])) k) (get_or (cs ++ (c ∷ [])) k 0) ≡ 0
      at w k l (yes e) = rw e (last ∙ w.1)
      at w k l (no e) = let b : k < length cs = omega (arith, longer) in before k b ∙ w.0 k b

-- rules that are alike have the same clear walks
pub alike_clear : (f g : Rule) → Alike f g → (n s : ℕ) (cs : List ℕ) → Clear n f s cs ↔ Clear n g s cs
alike_clear f g same n s cs = (
  λ clear k h. (same k (switch_at n s cs k) (get_or cs k 0)).0 (clear k h),
  λ clear k h. (same k (switch_at n s cs k) (get_or cs k 0)).1 (clear k h),
)

-- whatever the numbers that stop a link
pub alike_by_any_number : (f : Rule) → Alike f (λ i j c. f i j c + f i j c)
alike_by_any_number f i j c = (λ e. omega arith, λ e. omega arith)
