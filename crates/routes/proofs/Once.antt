-- Over one rule a route has one answer, and it says 11, or a tag, exactly where docs/RULES.md does.
use Rattle.std.specs.Prelude.{Ok, Err}
use Rattle.routes.specs.declared.NoRoute.{NoRoute}
use mathlib.Core.Path.{◌≡◌, refl, sym, ap, ap₂, subst, ◌∙◌}
use mathlib.Core.List.{List, [], ◌∷◌}
use mathlib.Core.Logic.{◌↔◌}
use Prim.Native.Nat.{ℕ}
use native.Mathlib.Omega.{arith}
use Rattle.table.proofs.Checks.{zero_one}
use Rattle.table.specs.declared.Refusal.{Refusal}
use Rattle.table.specs.Numbers.{number_of}
use Rattle.table.specs.Reply.{Reply, refused, Numbered}
use Rattle.table.proofs.Numbers.{number_tells, above_zero}
use Rattle.scheme.specs.Tags.{normal_tag}
use Rattle.paths.specs.Clear.{Rule, ClearPath, First, StageNamed}
use Rattle.paths.proofs.Order.{first_once}
use Rattle.paths.specs.Ways.{NumberNamed}
use Rattle.paths.proofs.Named.{stage_once}
use Rattle.paths.proofs.Ways.{number_once}
use Rattle.routes.specs.Routed.{route_says, Routed, SameTagOrStage, Found}

-- answers that say one number alone are one answer
pub found_tells : (a b : Found) (k : ℕ) → route_says a ≡ refused k → route_says b ≡ refused k → a ≡ b
found_tells (Ok t) b k e f = absurd (zero_one cc)
found_tells (Err (NoRoute.NoClearPath i m)) b k e f = absurd (zero_one cc)
found_tells (Err (NoRoute.Refused q)) (Ok t) k e f = absurd (zero_one cc)
found_tells (Err (NoRoute.Refused q)) (Err (NoRoute.NoClearPath j m)) k e f = absurd (zero_one cc)
found_tells (Err (NoRoute.Refused q)) (Err (NoRoute.Refused r)) k e f = let z : number_of q ≡ number_of r = cc in ap (λ r. Err (NoRoute.Refused r)) (number_tells q r z)

-- a route that is refused has a number of the table
pub found_numbered : (a : Found) → Numbered (route_says a)
found_numbered (Ok t) = tt
found_numbered (Err (NoRoute.NoClearPath i k)) = omega arith
found_numbered (Err (NoRoute.Refused r)) = above_zero r

-- what has the same tag as a tag is that tag, and so for a refusal; what has the same stage as 11 is 11 with that stage and some number
pub same_tag : (t : ℕ) (b : Found) → SameTagOrStage (Ok t) b → b ≡ Ok t
same_tag t (Ok u) e = ap Ok (sym e)
same_tag t (Err (NoRoute.NoClearPath j m)) e = absurd e
same_tag t (Err (NoRoute.Refused r)) e = absurd e

pub same_stage : (i k : ℕ) (b : Found) → SameTagOrStage (Err (NoRoute.NoClearPath i k)) b → (m : ℕ) × (b ≡ Err (NoRoute.NoClearPath i m))
same_stage i k (Ok u) e = absurd e
same_stage i k (Err (NoRoute.NoClearPath j m)) e = (m, ap (λ (x : ℕ). Err (NoRoute.NoClearPath x m)) (sym e))
same_stage i k (Err (NoRoute.Refused r)) e = absurd e

pub same_refusal : (q : Refusal) (b : Found) → SameTagOrStage (Err (NoRoute.Refused q)) b → b ≡ Err (NoRoute.Refused q)
same_refusal q (Ok u) e = absurd e
same_refusal q (Err (NoRoute.NoClearPath j m)) e = absurd e
same_refusal q (Err (NoRoute.Refused r)) e = ap (λ r. Err (NoRoute.Refused r)) (sym e)

-- and one answer has the same tag or stage as itself
pub same_itself : (a b : Found) → a ≡ b → SameTagOrStage a b
same_itself a b e = subst (SameTagOrStage a) e (own a)
  where
    own : (x : Found) → SameTagOrStage x x
    own (Ok t) = refl
    own (Err (NoRoute.NoClearPath i k)) = refl
    own (Err (NoRoute.Refused r)) = refl

-- over one rule, a route has one answer
module _ (n : ℕ) (stops : Rule) where
  pub routed_once : (s d : ℕ) (a b : Found) → Routed n stops s d a → Routed n stops s d b → a ≡ b
  routed_once s d (Ok t) (Ok u) p q =
      ap Ok (p.2 ∙ ap (normal_tag n s) (first_once n stops s d p.0 q.0 p.1 q.1) ∙ sym q.2)
  routed_once s d (Ok t) (Err (NoRoute.NoClearPath j m)) p q = absurd (q.0 p.0 p.1.clear_path)
  routed_once s d (Ok t) (Err (NoRoute.Refused r)) p q = absurd q
  routed_once s d (Err (NoRoute.NoClearPath i k)) (Ok u) p q = absurd (p.0 q.0 q.1.clear_path)
  routed_once s d (Err (NoRoute.NoClearPath i k)) (Err (NoRoute.NoClearPath j m)) p q =
      let e : i ≡ j = stage_once n stops s d i j p.1 q.1 in
      ap₂ (λ x y. Err (NoRoute.NoClearPath x y)) e (number_once n stops s d j k m (subst (λ (x : ℕ). NumberNamed n stops s d x k) e p.2) q.2)
  routed_once s d (Err (NoRoute.NoClearPath i k)) (Err (NoRoute.Refused r)) p q = absurd q
  routed_once s d (Err (NoRoute.Refused r)) b p q = absurd p

  -- 11: "no path is clear, with the stage named", and the number
  pub eleven_routed : (s d : ℕ) (a : Found) → Routed n stops s d a → (i k : ℕ)
      → (route_says a ≡ Reply.refused_with 11 (i ∷ k ∷ [])) ↔ (((cs : List ℕ) → ClearPath n stops s d cs → ⊥) × StageNamed n stops s d i × NumberNamed n stops s d i k)
  eleven_routed s d a routed i k = (told a routed, λ w. ap route_says (routed_once s d a (Err (NoRoute.NoClearPath i k)) routed w))
    where
      told : (x : Found) → Routed n stops s d x → route_says x ≡ Reply.refused_with 11 (i ∷ k ∷ [])
          → ((cs : List ℕ) → ClearPath n stops s d cs → ⊥) × StageNamed n stops s d i × NumberNamed n stops s d i k
      told (Ok t) w e = absurd (zero_one cc)
      told (Err (NoRoute.NoClearPath j m)) w e =
          let y : j ≡ i = cc in
          let z : m ≡ k = cc in
          subst (λ (x : ℕ). Routed n stops s d (Err (NoRoute.NoClearPath x k))) y (subst (λ (x : ℕ). Routed n stops s d (Err (NoRoute.NoClearPath j x))) z w)
      told (Err (NoRoute.Refused r)) w e = absurd w

  -- "A route answers the normal tag of the first clear path": a route is accepted with a tag, and with that alone
  pub tag_exactly : (s d : ℕ) (a : Found) → Routed n stops s d a → (t : ℕ)
      → (route_says a ≡ Reply.accepted (t ∷ [])) ↔ ((cs : List ℕ) × First n stops s d cs × (t ≡ normal_tag n s cs))
  tag_exactly s d a routed t = (told a routed, λ w. ap route_says (routed_once s d a (Ok t) routed w))
    where
      told : (x : Found) → Routed n stops s d x → route_says x ≡ Reply.accepted (t ∷ []) → (cs : List ℕ) × First n stops s d cs × (t ≡ normal_tag n s cs)
      told (Ok u) w e = let z : u ≡ t = cc in subst (λ (k : ℕ). Routed n stops s d (Ok k)) z w
      told (Err (NoRoute.NoClearPath j m)) w e = absurd (zero_one cc)
      told (Err (NoRoute.Refused r)) w e = absurd w
