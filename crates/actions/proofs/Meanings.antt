-- What the definitions say, before anything is proved with them.
use Rattle.std.specs.Prelude.{Ok}
use mathlib.Core.Path.{◌≡◌, refl, ap, ◌∙◌}
use mathlib.Core.Bool.{Bool, true, false, not, ◌&&◌, ◌||◌}
use mathlib.Core.Logic.{◌⊎◌, inl, inr, ◌↔◌}
use mathlib.Core.List.{List, [], ◌∷◌, ◌++◌, append-nil}
use Prim.Native.Nat.{ℕ, ◌-◌, ◌≤◌}
use native.Mathlib.Omega.{arith}
use borrow.Author.Tests.{eqb-true, not-false}
use lib.Dec.{eqb}
use lib.ListN.{length, get_or, replicate}
use Rattle.table.specs.Checks.{numbers, ◌when◌}
use Rattle.notices.specs.declared.Target.TheVariants.{Links, Switch, Pattern}
use Rattle.actions.specs.declared.Action.{Action}
use Rattle.actions.specs.Format.{word, with_class, bytes_of}
use Rattle.actions.specs.Entries.{no_part, action_checks}

-- "In every number of two bytes the high byte comes first.": the bytes 1 and 2 are 258
pub big_endian : word (1 ∷ 2 ∷ []) 0 ≡ 258
big_endian = refl

-- The worked example: "file 7: links, stage 0, switch 1, set 4", "file 8: pattern, stage 0, value 1, mask 3, set 4", "file 7: switch,
-- column 1, switch 2", "withdraw 7" and "route 8 to 0", the second of them busy and the route over broken ones only; and numbers of two
-- bytes
pub example_bytes :
    bytes_of (Ok (Action.File (record { number = 7; target = Links 0 1 4; class = 0 })))
    ∷ bytes_of (Ok (Action.File (record { number = 8; target = Pattern 0 1 3 4; class = 1 })))
    ∷ bytes_of (Ok (Action.File (record { number = 7; target = Switch 1 2; class = 0 })))
    ∷ bytes_of (Ok (Action.Withdraw 7))
    ∷ bytes_of (Ok (Action.Route 8 0 1))
    ∷ bytes_of (Ok (Action.Withdraw 258))
    ∷ bytes_of (Ok (Action.Route 772 1286 0))
    ∷ []
    ≡ (1 ∷ 0 ∷ 7 ∷ 1 ∷ 0 ∷ 0 ∷ 1 ∷ 0 ∷ 0 ∷ 4 ∷ 0 ∷ [])
    ∷ (1 ∷ 0 ∷ 8 ∷ 3 ∷ 0 ∷ 0 ∷ 1 ∷ 0 ∷ 3 ∷ 4 ∷ 1 ∷ [])
    ∷ (1 ∷ 0 ∷ 7 ∷ 2 ∷ 1 ∷ 0 ∷ 2 ∷ 0 ∷ 0 ∷ 0 ∷ 0 ∷ [])
    ∷ (2 ∷ 0 ∷ 7 ∷ 0 ∷ 0 ∷ 0 ∷ 0 ∷ 0 ∷ 0 ∷ 0 ∷ 0 ∷ [])
    ∷ (3 ∷ 0 ∷ 0 ∷ 0 ∷ 0 ∷ 0 ∷ 8 ∷ 0 ∷ 0 ∷ 0 ∷ 1 ∷ [])
    ∷ (2 ∷ 1 ∷ 2 ∷ 0 ∷ 0 ∷ 0 ∷ 0 ∷ 0 ∷ 0 ∷ 0 ∷ 0 ∷ [])
    ∷ (3 ∷ 0 ∷ 0 ∷ 0 ∷ 0 ∷ 3 ∷ 4 ∷ 5 ∷ 6 ∷ 0 ∷ 0 ∷ [])
    ∷ []
example_bytes = refl

-- "Action reader (part): 13, 2"
pub action_order : (part : List ℕ) → numbers (action_checks part) ≡ 13 ∷ 2 ∷ []
action_order part = refl

-- 13: "the part of an action has neither ten nor eleven bytes"; "A part of either length is read"
pub lengths_pass : (part : List ℕ) → ((get_or (action_checks part) 0 (0 when false)).holds ≡ false) ↔ ((length part ≡ 10) ⊎ (length part ≡ 11))
lengths_pass part =
    ((λ e. there (eqb (length part) 10) refl (not-false (eqb (length part) 10 || eqb (length part) 11) e)), back)
  where
    there : (b : Bool) → eqb (length part) 10 ≡ b → (eqb (length part) 10 || eqb (length part) 11) ≡ true → (length part ≡ 10) ⊎ (length part ≡ 11)
    there true h e = inl (eqb-true (length part) 10 h)
    there false h e = inr (eqb-true (length part) 11 (rw h at e))

    back : (length part ≡ 10) ⊎ (length part ≡ 11) → no_part part ≡ false
    back (inl e) = rw e
    back (inr e) = rw e

-- ten bytes are those with class 0 after them, and eleven are themselves
pub ten_with_class : (part : List ℕ) → length part ≡ 10 → with_class part ≡ part ++ 0 ∷ []
ten_with_class part e = ap (λ (k : ℕ). part ++ replicate (11 - k) 0) e

pub eleven_with_class : (part : List ℕ) → length part ≡ 11 → with_class part ≡ part
eleven_with_class part e = ap (λ (k : ℕ). part ++ replicate (11 - k) 0) e ∙ append-nil part

-- as a reader tests it: neither of two lengths
pub neither_length : (a b : Bool) → (not a && not b) ≡ not (a || b)
neither_length true b = refl
neither_length false b = refl

pub between_lengths : (part : List ℕ) → no_part part ≡ false → (10 ≤ length part) × (length part ≤ 11)
between_lengths part e = go ((lengths_pass part).0 e)
  where
    go : (length part ≡ 10) ⊎ (length part ≡ 11) → (10 ≤ length part) × (length part ≤ 11)
    go (inl l) = (omega arith, omega arith)
    go (inr l) = (omega arith, omega arith)
