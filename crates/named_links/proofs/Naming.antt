-- The links on ways that a target names: all are of one stage, its own.
use mathlib.Core.Path.{◌≡◌, sym, ap, ◌∙◌}
use mathlib.Core.Bool.{Bool, ◌&&◌, ◌||◌}
use Prim.Native.Nat.{ℕ, ◌+◌, ◌-◌}
use native.Mathlib.Decide.{ℕ_discrete}
use native.Mathlib.Omega.{arith}
use borrow.Author.Tests.{eq-eqb, ne_eqb}
use lib.Dec.{eqb}
use Rattle.fabric.specs.Links.{lands}
use Rattle.frontier.specs.declared.links.Stops.{Stops}
use Rattle.frontier.specs.declared.ways.Columns.{Columns}
use Rattle.frontier.specs.Stops.{has, set_at}
use Rattle.notices.specs.declared.Target.TheVariants.{Links, Switch}
use Rattle.notices.specs.Targets.{target_names}
use Rattle.notices.proofs.Named.{column_0_as_links}
use Rattle.named_links.specs.Named.{out_of, WithTarget, WithInputs}

-- the links that a switch notice names
module _ (n : ℕ) (columns : Columns) (column switch : ℕ) (old : Stops) where
  -- in column 0, all three of the switch's own
  pub column_0_more : column ≡ 0 → (new : Stops) → WithTarget n columns (Links 0 switch 7) old new → WithTarget n columns (Switch column switch) old new
  column_0_more e new w =
      record {
        at = λ i c inside h.
            rw e (w.at i c inside h ∙ ap (λ (b : Bool). has (set_at i old) c || b) (sym (column_0_as_links n switch i (out_of columns i c) c h)));
      }

  -- elsewhere its input links
  module _ (some : column ≡ 0 → ⊥) where
    abbrev leads : ℕ → ℕ → Bool
    leads i c = eqb (lands n i c (out_of columns i c)) switch

    own_end : (i c : ℕ) → (eqb i (column - 1) && leads (column - 1) c) ≡ (eqb (i + 1) column && leads i c)
    own_end i c = go (ℕ_discrete i (column - 1))
      where
        go : Dec (i ≡ column - 1) → (eqb i (column - 1) && leads (column - 1) c) ≡ (eqb (i + 1) column && leads i c)
        go (yes e) = rw (eq-eqb i (column - 1) e, eq-eqb (i + 1) column (omega arith), e)
        go (no e) = rw (ne_eqb i (column - 1) e, ne_eqb (i + 1) column (λ f. e (omega arith)))

    own_names : (i c : ℕ) → (eqb i (column - 1) && leads (column - 1) c) ≡ target_names n (Switch column switch) i (out_of columns i c) c
    own_names i c = rw (ne_eqb column 0 some) (own_end i c)

    pub switch_more : (new : Stops) → WithInputs n columns (column - 1) switch old new → WithTarget n columns (Switch column switch) old new
    switch_more new w = record { at = λ i c inside h. w i c h ∙ ap (λ (b : Bool). has (set_at i old) c || b) (own_names i c) }
