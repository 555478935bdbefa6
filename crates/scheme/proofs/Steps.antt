-- Steps that a destination and a state of every switch give: lemma 2.1 and theorem 3.1 of docs/RULES.md, 'Tags and steps', for every n.
use mathlib.Core.Path.{◌≡◌, refl, sym, ap, subst, ◌∙◌}
use mathlib.Core.List.{List, [], ◌∷◌}
use Prim.Native.Nat.{ℕ, zero, suc, ◌+◌, ◌≤◌, ◌<◌}
use native.Mathlib.Nat.{add-zero, zero-add, mod-eq_of_lt}
use native.Mathlib.Decide.{ℕ_discrete}
use native.Mathlib.Numerals.{add-one}
use native.Mathlib.Omega.{arith}
use lib.ListN.{length, take, get_or}
use Rattle.fabric.specs.Labels.{size, bit, Agree}
use Rattle.fabric.specs.Links.{lands}
use Rattle.fabric.specs.Walks.{Codes, Steps, walked, switch_at}
use Rattle.fabric.proofs.Bits.{bit_lt}
use Rattle.fabric.proofs.Links.{straight_toward, nonstraight_toward}
use Rattle.fabric.proofs.Stages.{walked_lt, switch_next}
use Rattle.scheme.specs.Scheme.{link}
use Rattle.scheme.specs.Tags.{steered, steps_of, destination, state}
use Rattle.scheme.proofs.Table.{link_straight, link_turns, link_code}

-- lemma 2.1: whatever the state, the link that the table chooses leads to a label with destination bit i for its bit i and
-- the bits below it unchanged
pub table_leads : (n i j d state : ℕ) → i < n → Agree i j d → Agree (suc i) (lands n i (link (bit i j) (bit i d) state) j) d
table_leads n i j d state h a = go (ℕ_discrete (bit i j) (bit i d))
  where
    go : Dec (bit i j ≡ bit i d) → Agree (suc i) (lands n i (link (bit i j) (bit i d) state) j) d
    go (yes e) = rw (link_straight (bit i j) (bit i d) state e) (straight_toward n i h j d a e)
    go (no e) =
        nonstraight_toward n i h (link (bit i j) (bit i d) state) j d (link_turns (bit i j) (bit i d) state (bit_lt i j) (bit_lt i d) e) a e

module _ (n d : ℕ) (states : ℕ → ℕ → ℕ) where
  pub steered_stages : (left i j : ℕ) → length (steered n d states left i j) ≡ left
  unfolding steered
  steered_stages zero i j = refl
  steered_stages (suc left) i j = ap suc (steered_stages left (suc i) _)

  pub steered_codes : (left i j : ℕ) → Codes (steered n d states left i j)
  unfolding steered
  steered_codes zero i j = tt
  steered_codes (suc left) i j = (link_code (bit i j) (bit i d) (states i j), steered_codes left (suc i) _)

  -- at each stage the table chooses the link, for the switch that the walk has reached
  pub steered_follows : (left i j k : ℕ) → k < left →
      get_or (steered n d states left i j) k 0
      ≡ link (bit (i + k) (walked n i j (take k (steered n d states left i j)))) (bit (i + k) d) (states (i + k) (walked n i j (take k (steered n d states left i j))))
  unfolding steered walked
  steered_follows zero i j k h = absurd (omega arith)
  steered_follows (suc left) i j zero h = rw (add-zero i)
  steered_follows (suc left) i j (suc k) h =
      let c : ℕ = link (bit i j) (bit i d) (states i j) in
      let e : suc i + k ≡ i + suc k = omega arith in
      subst (λ (m : ℕ). get_or (steered n d states left (suc i) (lands n i c j)) k 0 ≡ link (bit m (walked n (suc i) (lands n i c j) (take k (steered n d states left (suc i) (lands n i c j))))) (bit m d) (states m (walked n (suc i) (lands n i c j) (take k (steered n d states left (suc i) (lands n i c j)))))) e
      (steered_follows left (suc i) (lands n i c j) k (omega arith))

  -- each stage settles one bit more of the destination
  pub steered_leads : (left i j : ℕ) → i + left ≤ n → Agree i j d → Agree (i + left) (walked n i j (steered n d states left i j)) d
  unfolding steered walked
  steered_leads zero i j h a = subst (λ (k : ℕ). Agree k j d) (sym (add-zero i)) a
  steered_leads (suc left) i j h a =
      let c : ℕ = link (bit i j) (bit i d) (states i j) in
      let e : suc i + left ≡ i + suc left = omega arith in
      subst (λ (k : ℕ). Agree k (walked n (suc i) (lands n i c j) (steered n d states left (suc i) (lands n i c j))) d) e
      (steered_leads left (suc i) (lands n i c j) (omega arith) (table_leads n i j d (states i j) (omega arith) a))

  -- theorem 3.1: the path ends where the tag's low n bits say, for every source and every state of the network
  pub state_is_free : (s : ℕ) → s < size n → walked n 0 s (steered n d states n 0 s) ≡ destination n d
  state_is_free s h =
      let p : List ℕ = steered n d states n 0 s in
      sym (mod-eq_of_lt (walked_lt n 0 s p h))
      ∙ subst (λ (k : ℕ). Agree k (walked n 0 s p) d) (zero-add n) (steered_leads n 0 s (omega arith) (omega arith))

  -- steps that follow the table at each stage are these
  pub follows_steered : (cs : List ℕ) (i j : ℕ)
      → ((k : ℕ) → k < length cs → get_or cs k 0 ≡ link (bit (i + k) (walked n i j (take k cs))) (bit (i + k) d) (states (i + k) (walked n i j (take k cs))))
      → steered n d states (length cs) i j ≡ cs
  unfolding steered walked
  follows_steered [] i j f = refl
  follows_steered (c ∷ cs) i j f =
      let e : link (bit i j) (bit i d) (states i j) ≡ c = sym (subst (λ (m : ℕ). c ≡ link (bit m j) (bit m d) (states m j)) (add-zero i) (f 0 (omega arith))) in
      rw e
      (ap (λ (l : List ℕ). c ∷ l) (follows_steered cs (suc i) (lands n i c j) (λ k h.
      let m : suc i + k ≡ i + suc k = omega arith in
      rw m (f (suc k) (omega arith)))))

module _ (n s tag : ℕ) where
  pub steps_of_tag : Steps n (steps_of n s tag)
  steps_of_tag = record { stages = steered_stages n tag (λ i j. state n tag i) n 0 s; codes = steered_codes n tag (λ i j. state n tag i) n 0 s }

  pub tag_arrives : s < size n → walked n 0 s (steps_of n s tag) ≡ destination n tag
  tag_arrives h = state_is_free n tag (λ i j. state n tag i) s h

  -- at each stage the tag's steps follow the table
  pub tag_follows : (k : ℕ) → k < n → get_or (steps_of n s tag) k 0 ≡ link (bit k (switch_at n s (steps_of n s tag) k)) (bit k tag) (state n tag k)
  tag_follows k h =
      let j : ℕ = switch_at n s (steps_of n s tag) k in
      subst (λ (m : ℕ). get_or (steps_of n s tag) k 0 ≡ link (bit m j) (bit m tag) (state n tag m)) (zero-add k)
      (steered_follows n tag (λ i x. state n tag i) n 0 s k h)

  -- and steps that do are the tag's
  pub follows_tag : (cs : List ℕ) → length cs ≡ n
      → ((k : ℕ) → k < n → get_or cs k 0 ≡ link (bit k (switch_at n s cs k)) (bit k tag) (state n tag k)) → steps_of n s tag ≡ cs
  follows_tag cs l f =
      subst (λ (m : ℕ). steered n tag (λ i x. state n tag i) m 0 s ≡ cs) l
      (follows_steered n tag (λ i x. state n tag i) cs 0 s (λ k h. let m = zero-add k in rw m (f k (omega arith))))

  -- a walk along the tag's steps, one stage on
  pub step_on : (i j code : ℕ) → i < n → j ≡ switch_at n s (steps_of n s tag) i → code ≡ link (bit i j) (bit i tag) (state n tag i)
      → (code ≡ get_or (steps_of n s tag) i 0) × (lands n i code j ≡ switch_at n s (steps_of n s tag) (i + 1))
  step_on i j code h at uses =
      let l = steps_of_tag.stages in
      let e : code ≡ get_or (steps_of n s tag) i 0 = uses ∙ ap (λ (x : ℕ). link (bit i x) (bit i tag) (state n tag i)) at ∙ sym (tag_follows i h) in
      (e, rw (e, at, add-one) (sym (switch_next n s (steps_of n s tag) i (omega arith))))
