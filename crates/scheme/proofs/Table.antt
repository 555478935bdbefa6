-- Laws of the two-bit scheme's table, read forward and backward.
use mathlib.Core.Path.{◌≡◌, refl}
use mathlib.Core.List.{[], ◌∷◌}
use Prim.Native.Nat.{ℕ, zero, suc, ◌-◌, ◌≤◌, ◌<◌}
use native.Mathlib.Omega.{arith}
use Rattle.fabric.specs.Links.{Code}
use Rattle.scheme.specs.Scheme.{link, state_for}

-- The table of links from top to bottom: bit i of j, t, state 0 and then 1
pub table_in_rows :
    link 0 0 0 ∷ link 0 0 1 ∷ link 0 1 0 ∷ link 0 1 1 ∷ link 1 1 0 ∷ link 1 1 1 ∷ link 1 0 0 ∷ link 1 0 1 ∷ []
    ≡ 0 ∷ 0 ∷ 1 ∷ 2 ∷ 0 ∷ 0 ∷ 2 ∷ 1 ∷ []
table_in_rows = refl

-- and backward: straight, plus and minus of a switch whose bit is 0, and of one whose bit is 1
pub states_in_rows : state_for 0 0 ∷ state_for 0 1 ∷ state_for 0 2 ∷ state_for 1 0 ∷ state_for 1 1 ∷ state_for 1 2 ∷ [] ≡ 0 ∷ 0 ∷ 1 ∷ 0 ∷ 1 ∷ 0 ∷ []
states_in_rows = refl

-- a switch whose bit is the destination's goes straight
pub link_straight : (b t state : ℕ) → b ≡ t → link b t state ≡ 0
link_straight zero zero state e = refl
link_straight zero (suc t) state e = absurd (omega arith)
link_straight (suc b) zero state e = absurd (omega arith)
link_straight (suc b) (suc t) state e = refl

-- any other turns: by plus where its bit is the state, and by minus where it is not
pub link_plus : (b t state : ℕ) → b < 2 → t < 2 → (b ≡ t → ⊥) → b ≡ state → link b t state ≡ 1
link_plus zero zero state hb ht turns e = absurd (turns refl)
link_plus zero (suc t) zero hb ht turns e = refl
link_plus zero (suc t) (suc state) hb ht turns e = absurd (omega arith)
link_plus (suc b) (suc t) state hb ht turns e = absurd (turns (omega arith))
link_plus (suc b) zero zero hb ht turns e = absurd (omega arith)
link_plus (suc b) zero (suc state) hb ht turns e = refl

pub link_minus : (b t state : ℕ) → b < 2 → t < 2 → state < 2 → (b ≡ t → ⊥) → (b ≡ state → ⊥) → link b t state ≡ 2
link_minus zero zero state hb ht hs turns e = absurd (turns refl)
link_minus zero (suc t) zero hb ht hs turns e = absurd (e refl)
link_minus zero (suc t) (suc state) hb ht hs turns e = refl
link_minus (suc b) (suc t) state hb ht hs turns e = absurd (turns (omega arith))
link_minus (suc b) zero zero hb ht hs turns e = refl
link_minus (suc b) zero (suc state) hb ht hs turns e = absurd (e (omega arith))

pub link_code : (b t state : ℕ) → Code (link b t state)
link_code zero zero state = omega arith
link_code zero (suc t) zero = omega arith
link_code zero (suc t) (suc state) = omega arith
link_code (suc b) (suc t) state = omega arith
link_code (suc b) zero zero = omega arith
link_code (suc b) zero (suc state) = omega arith

pub link_turns : (b t state : ℕ) → b < 2 → t < 2 → (b ≡ t → ⊥) → 0 < link b t state
link_turns zero zero state hb ht turns = absurd (turns refl)
link_turns zero (suc t) zero hb ht turns = omega arith
link_turns zero (suc t) (suc state) hb ht turns = omega arith
link_turns (suc b) (suc t) state hb ht turns = absurd (turns (omega arith))
link_turns (suc b) zero zero hb ht turns = omega arith
link_turns (suc b) zero (suc state) hb ht turns = omega arith

-- the table read backward
pub state_for_lt : (b c : ℕ) → state_for b c < 2
state_for_lt b zero = omega arith
state_for_lt zero (suc zero) = omega arith
state_for_lt zero (suc (suc c)) = omega arith
state_for_lt (suc b) (suc zero) = omega arith
state_for_lt (suc b) (suc (suc c)) = omega arith

pub state_for_plus : (b : ℕ) → b < 2 → state_for b 1 ≡ b
state_for_plus zero h = refl
state_for_plus (suc b) h = omega arith

pub state_for_minus : (b c : ℕ) → b < 2 → 2 ≤ c → state_for b c ≡ 1 - b
state_for_minus b zero h l = absurd (omega arith)
state_for_minus b (suc zero) h l = absurd (omega arith)
state_for_minus zero (suc (suc c)) h l = refl
state_for_minus (suc b) (suc (suc c)) h l = omega arith

-- forward and backward: a turn keeps its state
pub state_for_link : (b t state : ℕ) → b < 2 → t < 2 → state < 2 → (b ≡ t → ⊥) → state_for b (link b t state) ≡ state
state_for_link zero zero state hb ht hs turns = absurd (turns refl)
state_for_link zero (suc t) zero hb ht hs turns = refl
state_for_link zero (suc t) (suc state) hb ht hs turns = omega arith
state_for_link (suc b) (suc t) state hb ht hs turns = absurd (turns (omega arith))
state_for_link (suc b) zero zero hb ht hs turns = refl
state_for_link (suc b) zero (suc state) hb ht hs turns = omega arith

-- backward and forward: a nonstraight code comes back
pub link_state_for : (b t c : ℕ) → b < 2 → t < 2 → Code c → 0 < c → (b ≡ t → ⊥) → link b t (state_for b c) ≡ c
link_state_for b t zero hb ht hc z turns = absurd (omega arith)
link_state_for zero zero (suc c) hb ht hc z turns = absurd (turns refl)
link_state_for zero (suc t) (suc zero) hb ht hc z turns = refl
link_state_for zero (suc t) (suc (suc c)) hb ht hc z turns = omega arith
link_state_for (suc b) (suc t) (suc c) hb ht hc z turns = absurd (turns (omega arith))
link_state_for (suc b) zero (suc zero) hb ht hc z turns = refl
link_state_for (suc b) zero (suc (suc c)) hb ht hc z turns = omega arith
