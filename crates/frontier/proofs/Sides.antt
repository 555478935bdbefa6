-- The clear walks toward d, by the side of the column on which they arrive.
use Rattle.std.proofs.Common.{◌≡◌, ℕ, zero, suc, ◌<◌, ◌≤◌, Bool, true, false, eqb, ◌⊎◌, List, [], ◌∷◌, length, sym, refl, ◌∙◌, subst, ap₂, inl, inr, ⊎_elim, arith}
use Rattle.fabric.specs.Labels.{size, bit, Agree}
use Rattle.fabric.specs.Links.{Code, lands}
use Rattle.fabric.specs.Walks.{walked}
use Rattle.fabric.proofs.Bits.{bit_lt}
use Rattle.fabric.proofs.Links.{toward_straight, toward_nonstraight, straight_toward, nonstraight_toward}
use Rattle.paths.specs.Clear.{Rule, Onward}
use Rattle.frontier.specs.Columns.{high, low, high_right}
use Rattle.paths.proofs.Walks.{Last, last, lengthened, walked_snoc}
use Rattle.frontier.proofs.Pivots.{high_agrees, low_agrees, high_straight, low_plus, low_minus, high_bit_right, low_bit_wrong, high_plus, high_minus, low_straight, high_bit_wrong, low_bit_right}
use Rattle.frontier.proofs.Best.{Via}

-- the walks that arrive in column i on the high side, and on the low side
module _ (n : ℕ) (stops : Rule) (s d : ℕ) where
  pub record Pair : Type 1 where
    pub up : List ℕ → Type 0
    pub down : List ℕ → Type 0

  abbrev pub next : ℕ → Bool → Pair → Pair
  next i true w =
      record {
        up = λ cs. Via stops i (high n s d i) 0 w.up cs ⊎ Via stops i (low n s d i) 1 w.down cs;
        down = Via stops i (low n s d i) 2 w.down;
      }
  next i false w =
      record {
        up = Via stops i (high n s d i) 1 w.up;
        down = λ cs. Via stops i (low n s d i) 0 w.down cs ⊎ Via stops i (high n s d i) 2 w.up cs;
      }

  unfoldable pub sides : ℕ → Pair
  sides zero = record { up = λ cs. cs ≡ []; down = λ cs. ⊥ }
  sides (suc i) = next i (eqb (bit i (high n s d i)) (bit i d)) (sides i)

  -- a walk that arrives at a switch of column i, toward d
  pub record Arrives (i j : ℕ) (cs : List ℕ) : Type 0 where
    pub onward : Onward n stops s d i cs
    pub at : walked n 0 s cs ≡ j

  via_arrives : (i j c k : ℕ) (P : List ℕ → Type 0) → ((cs : List ℕ) → P cs → Arrives i j cs) → Code c
      → Agree (suc i) (lands n i c j) d → lands n i c j ≡ k → (cs : List ℕ) → Via stops i j c P cs → Arrives (suc i) k cs
  via_arrives i j c k P arrives code agrees to cs v =
      let w = arrives v.before v.among in
      let e = w.at in
      let l = w.onward.links in
      subst (Arrives (suc i) k) (sym v.ends)
      (record {
        onward = lengthened n stops s d i v.before c w.onward code (rw e v.free) (rw e agrees);
        at = walked_snoc n s v.before c ∙ ap₂ (λ (m x : ℕ). lands n m c x) l e ∙ to;
      })

  record Sound (i : ℕ) (w : Pair) : Type 0 where
    up : (cs : List ℕ) → w.up cs → Arrives i (high n s d i) cs
    down : (cs : List ℕ) → w.down cs → Arrives i (low n s d i) cs

  module _ (source : s < size n) where
    next_sound : (i : ℕ) → i < n → (b : Bool) → high_right n s d i ≡ b → (w : Pair) → Sound i w → Sound (suc i) (next i b w)
    next_sound i h true right w sound =
        let hi : ℕ = high n s d i in
        let lo : ℕ = low n s d i in
        let t = bit_lt i d in
        let eb = high_bit_right n s d source i h right in
        let wb : (bit i lo ≡ bit i d → ⊥) = λ e. let f = low_bit_wrong n s d source i h right in absurd (omega arith) in
        let ah = high_agrees n s d source i (omega arith) in
        let al = low_agrees n s d source i h in
        record {
          up = λ cs v.
              ⊎_elim
              (via_arrives i hi 0 (high n s d (suc i)) w.up sound.up (omega arith) (straight_toward n i h hi d ah eb) (high_straight n s d source i h right) cs)
              (via_arrives i lo 1 (high n s d (suc i)) w.down sound.down (omega arith) (nonstraight_toward n i h 1 lo d (omega arith) al wb) (low_plus n s d source i h right) cs)
              v;
          down = via_arrives i lo 2 (low n s d (suc i)) w.down sound.down (omega arith) (nonstraight_toward n i h 2 lo d (omega arith) al wb) (low_minus n s d source i h right);
        }
    next_sound i h false wrong w sound =
        let hi : ℕ = high n s d i in
        let lo : ℕ = low n s d i in
        let t = bit_lt i d in
        let eb = low_bit_right n s d source i h wrong in
        let wb : (bit i hi ≡ bit i d → ⊥) = λ e. let f = high_bit_wrong n s d source i h wrong in absurd (omega arith) in
        let ah = high_agrees n s d source i (omega arith) in
        let al = low_agrees n s d source i h in
        record {
          up = via_arrives i hi 1 (high n s d (suc i)) w.up sound.up (omega arith) (nonstraight_toward n i h 1 hi d (omega arith) ah wb) (high_plus n s d source i h wrong);
          down = λ cs v.
              ⊎_elim
              (via_arrives i lo 0 (low n s d (suc i)) w.down sound.down (omega arith) (straight_toward n i h lo d al eb) (low_straight n s d source i h wrong) cs)
              (via_arrives i hi 2 (low n s d (suc i)) w.up sound.up (omega arith) (nonstraight_toward n i h 2 hi d (omega arith) ah wb) (high_minus n s d source i h wrong) cs)
              v;
        }

    sides_sound : (i : ℕ) → i ≤ n → Sound i (sides i)
    unfolding sides high walked
    sides_sound zero h =
        record {
          up = λ cs e.
              subst (Arrives 0 s) (sym e)
              (record { onward = record { links = refl; codes = tt; clear = λ k l. absurd (omega arith); agrees = omega arith }; at = refl });
          down = λ cs e. absurd e;
        }
    sides_sound (suc i) h = next_sound i h (eqb (bit i (high n s d i)) (bit i d)) refl (sides i) (sides_sound i (omega arith))

    -- every clear walk toward d arrives on one side or the other
    via_last : (i j : ℕ) (cs : List ℕ) (w : Last n stops s d i cs) (P : List ℕ → Type 0) → walked n 0 s w.before ≡ j → P w.before → Via stops i j w.code P cs
    via_last i j cs w P e among = record { before = w.before; among = among; ends = w.ends; free = rw (← e) w.free }

    turned : (A : ℕ → Type 0) (B : Type 0) → (c : ℕ) → Code c → 0 < c → A c → (A 1 → B) → (A 2 → B) → B
    turned A B zero code z a one two = absurd (omega arith)
    turned A B (suc zero) code z a one two = one a
    turned A B (suc (suc zero)) code z a one two = two a
    turned A B (suc (suc (suc c))) code z a one two = absurd (omega arith)

    next_complete : (i : ℕ) → i < n → (b : Bool) → high_right n s d i ≡ b → (w : Pair) → Sound i w → (cs : List ℕ)
        → (l : Last n stops s d i cs) → (w.up l.before) ⊎ (w.down l.before) → ((next i b w).up cs) ⊎ ((next i b w).down cs)
    next_complete i h true right w sound cs l (inl u) =
        let e = (sound.up l.before u).at in
        let z : l.code ≡ 0 = toward_straight n i h l.code (high n s d i) d (rw (← e) l.agrees) (high_bit_right n s d source i h right) in
        inl (inl (subst (λ (c : ℕ). Via stops i (high n s d i) c w.up cs) z (via_last i (high n s d i) cs l w.up e u)))
    next_complete i h true right w sound cs l (inr v) =
        let e = (sound.down l.before v).at in
        let t = bit_lt i d in
        let f = low_bit_wrong n s d source i h right in
        let z : 0 < l.code = toward_nonstraight n i h l.code (low n s d i) d (rw (← e) l.agrees) (λ x. absurd (omega arith)) in
        turned (λ c. Via stops i (low n s d i) c w.down cs) ((next i true w).up cs ⊎ (next i true w).down cs) l.code l.is_code z
        (via_last i (low n s d i) cs l w.down e v) (λ x. inl (inr x)) (λ x. inr x)
    next_complete i h false wrong w sound cs l (inl u) =
        let e = (sound.up l.before u).at in
        let t = bit_lt i d in
        let f = high_bit_wrong n s d source i h wrong in
        let z : 0 < l.code = toward_nonstraight n i h l.code (high n s d i) d (rw (← e) l.agrees) (λ x. absurd (omega arith)) in
        turned (λ c. Via stops i (high n s d i) c w.up cs) ((next i false w).up cs ⊎ (next i false w).down cs) l.code l.is_code z
        (via_last i (high n s d i) cs l w.up e u) (λ x. inl x) (λ x. inr (inr x))
    next_complete i h false wrong w sound cs l (inr v) =
        let e = (sound.down l.before v).at in
        let z : l.code ≡ 0 = toward_straight n i h l.code (low n s d i) d (rw (← e) l.agrees) (low_bit_right n s d source i h wrong) in
        inr (inl (subst (λ (c : ℕ). Via stops i (low n s d i) c w.down cs) z (via_last i (low n s d i) cs l w.down e v)))

    pub sides_complete : (i : ℕ) → i ≤ n → (cs : List ℕ) → Onward n stops s d i cs → ((sides i).up cs) ⊎ ((sides i).down cs)
    unfolding sides
    sides_complete zero h cs w = inl (none cs w.links)
      where
        none : (cs : List ℕ) → length cs ≡ 0 → cs ≡ []
        none [] e = refl
        none (c ∷ cs) e = absurd (omega arith)
    sides_complete (suc i) h cs w =
        let l = last n stops s d i cs h w in
        next_complete i h (eqb (bit i (high n s d i)) (bit i d)) refl (sides i) (sides_sound i (omega arith)) cs l
        (sides_complete i (omega arith) l.before l.onward)

    pub up_arrives : (i : ℕ) → i ≤ n → (cs : List ℕ) → (sides i).up cs → Arrives i (high n s d i) cs
    up_arrives i h = (sides_sound i h).up

    pub down_arrives : (i : ℕ) → i ≤ n → (cs : List ℕ) → (sides i).down cs → Arrives i (low n s d i) cs
    down_arrives i h = (sides_sound i h).down

    pub up_onward : (i : ℕ) → i ≤ n → (cs : List ℕ) → (sides i).up cs → Onward n stops s d i cs
    up_onward i h cs u = ((sides_sound i h).up cs u).onward

    pub down_onward : (i : ℕ) → i ≤ n → (cs : List ℕ) → (sides i).down cs → Onward n stops s d i cs
    down_onward i h cs v = ((sides_sound i h).down cs v).onward
