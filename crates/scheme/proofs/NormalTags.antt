-- Normal tags: steps from a source have one and only one, and tag to steps to tag clears exactly the state bits of straight
-- steps.
use mathlib.Core.Path.{◌≡◌, refl, sym, ap, subst, ◌∙◌}
use mathlib.Core.List.{List, [], ◌∷◌}
use Prim.Native.Nat.{ℕ, zero, suc, ◌+◌, ◌-◌, ◌*◌, ◌%◌, ◌^◌, ◌≤◌, ◌<◌}
use native.Mathlib.Nat.{zero-add, mul-suc, mul-le-mul_left}
use native.Mathlib.Decide.{ℕ_discrete, dec_lt}
use native.Mathlib.Omega.{arith}
use lib.ListN.{length, get_or}
use Rattle.fabric.specs.Labels.{size, bit, Agree}
use Rattle.fabric.specs.Links.{Code, lands}
use Rattle.fabric.specs.Walks.{Codes, Steps, Path, walked, switch_at}
use Rattle.fabric.proofs.Bits.{bit_lt, agree_below, agree_by_bits, agree_bit, bit_of_low}
use Rattle.fabric.proofs.Links.{toward_straight, toward_nonstraight}
use Rattle.fabric.proofs.Stages.{walked_lt, switch_next, arrives_agrees}
use Rattle.scheme.specs.Scheme.{link, state_for}
use Rattle.scheme.specs.Tags.{tags, destination, state, steps_of, states_of, normal_tag, IsNormal}
use Rattle.scheme.proofs.Table.{link_straight, state_for_link, link_state_for}
use Rattle.scheme.proofs.Steps.{steps_of_tag, tag_arrives, tag_follows, follows_tag}
use Rattle.scheme.proofs.States.{states_lt, states_bit}
use Rattle.scheme.proofs.Tags.{tags_counted, tag_destination, tag_state}

-- the code of a stage is a code
pub code_at : (cs : List ℕ) (k : ℕ) → Codes cs → Code (get_or cs k 0)
code_at [] k h = omega arith
code_at (c ∷ cs) zero h = h.0
code_at (c ∷ cs) (suc k) h = code_at cs k h.1

-- a switch on a way to d uses its straight link where its bit is right, and otherwise one of its two nonstraight links, as
-- the table says
pub path_follows : (n s d : ℕ) (cs : List ℕ) → Path n s d cs → (k : ℕ) → k < n
    → get_or cs k 0 ≡ link (bit k (switch_at n s cs k)) (bit k d) (state_for (bit k (switch_at n s cs k)) (get_or cs k 0))
path_follows n s d cs p k h =
    let l = p.steps.stages in
    let onward : Agree (suc k) (lands n k (get_or cs k 0) (switch_at n s cs k)) d =
    ap (λ (x : ℕ). x % 2 ^ suc k) (sym (switch_next n s cs k (omega arith))) ∙ arrives_agrees n s d cs p.steps.stages p.arrives (suc k) h in
    go (switch_at n s cs k) (get_or cs k 0) onward (code_at cs k p.steps.codes) (ℕ_discrete (bit k (switch_at n s cs k)) (bit k d))
  where
    go : (j c : ℕ) → Agree (suc k) (lands n k c j) d → Code c → Dec (bit k j ≡ bit k d) → c ≡ link (bit k j) (bit k d) (state_for (bit k j) c)
    go j c a hc (yes b) = toward_straight n k h c j d a b ∙ sym (link_straight (bit k j) (bit k d) (state_for (bit k j) c) b)
    go j c a hc (no b) =
        sym (link_state_for (bit k j) (bit k d) c (bit_lt k j) (bit_lt k d) hc (toward_nonstraight n k h c j d a b) b)

module _ (n s : ℕ) (source : s < size n) (cs : List ℕ) where
  pub normal_destination : destination n (normal_tag n s cs) ≡ walked n 0 s cs
  normal_destination = tag_destination n (walked n 0 s cs) (states_of n 0 s cs) (walked_lt n 0 s cs source)

  pub normal_state : (k : ℕ) → k < length cs → state n (normal_tag n s cs) k ≡ state_for (bit k (switch_at n s cs k)) (get_or cs k 0)
  normal_state k h =
      tag_state n (walked n 0 s cs) (states_of n 0 s cs) k (walked_lt n 0 s cs source)
      ∙ states_bit n 0 s cs k h
      ∙ ap (λ (m : ℕ). state_for (bit m (switch_at n s cs k)) (get_or cs k 0)) (zero-add k)

  pub normal_is_tag : length cs ≡ n → normal_tag n s cs < tags n
  normal_is_tag l =
      let x : ℕ = states_of n 0 s cs in
      let h : x < size n = subst (λ (m : ℕ). x < 2 ^ m) l (states_lt n 0 s cs) in
      let w = walked_lt n 0 s cs source in
      let m : size n * suc x ≤ size n * size n = mul-le-mul_left (size n) h in
      let d = mul-suc (size n) x in
      let p = tags_counted n in
      omega arith

  -- each step is the one that the table gives for its normal state
  normal_follows : Steps n cs → (k : ℕ) → k < n → get_or cs k 0 ≡ link (bit k (switch_at n s cs k)) (bit k (normal_tag n s cs)) (state n (normal_tag n s cs) k)
  normal_follows p k h =
      let l = p.stages in
      let e : bit k (normal_tag n s cs) ≡ bit k (walked n 0 s cs) = sym (bit_of_low k n (normal_tag n s cs) h) ∙ ap (bit k) normal_destination in
      rw (e, normal_state k (omega arith)) (path_follows n s (walked n 0 s cs) cs (record { steps = p; arrives = refl }) k h)

  -- steps to tag to steps gives the steps back
  pub steps_come_back : Steps n cs → steps_of n s (normal_tag n s cs) ≡ cs
  steps_come_back p = follows_tag n s (normal_tag n s cs) cs p.stages (normal_follows p)

  -- "the destination that they lead to, and state 0 at each straight step"
  pub normal_tag_is : Steps n cs → IsNormal n s cs (normal_tag n s cs)
  normal_tag_is p =
      let l = p.stages in
      record {
        is_tag = normal_is_tag p.stages;
        leads = steps_come_back p;
        reached = normal_destination;
        calm = λ i h z. normal_state i (omega arith) ∙ ap (state_for (bit i (switch_at n s cs i))) z;
      }

-- a tag and the normal tag of its steps
module _ (n s : ℕ) (source : s < size n) (tag : ℕ) where
  pub normal_keeps_destination : destination n (normal_tag n s (steps_of n s tag)) ≡ destination n tag
  normal_keeps_destination = normal_destination n s source (steps_of n s tag) ∙ tag_arrives n s tag source

  state_of_step : (k : ℕ) → k < n → state n (normal_tag n s (steps_of n s tag)) k ≡ state_for (bit k (switch_at n s (steps_of n s tag) k)) (get_or (steps_of n s tag) k 0)
  state_of_step k h = let l = (steps_of_tag n s tag).stages in normal_state n s source (steps_of n s tag) k (omega arith)

  -- the state bits of straight steps are cleared
  pub straight_cleared : (k : ℕ) → k < n → get_or (steps_of n s tag) k 0 ≡ 0 → state n (normal_tag n s (steps_of n s tag)) k ≡ 0
  straight_cleared k h z = state_of_step k h ∙ ap (state_for (bit k (switch_at n s (steps_of n s tag) k))) z

  -- and no others
  pub turns_kept : (k : ℕ) → k < n → (get_or (steps_of n s tag) k 0 ≡ 0 → ⊥) → state n (normal_tag n s (steps_of n s tag)) k ≡ state n tag k
  turns_kept k h z =
      let j : ℕ = switch_at n s (steps_of n s tag) k in
      let f = tag_follows n s tag k h in
      state_of_step k h
      ∙ ap (state_for (bit k j)) f
      ∙ state_for_link (bit k j) (bit k tag) (state n tag k) (bit_lt k j) (bit_lt k tag) (bit_lt (n + k) tag)
      (λ b. z (f ∙ link_straight (bit k j) (bit k tag) (state n tag k) b))

  -- so a tag that has no other state bit set is the normal tag of its steps
  pub calm_is_normal : tag < tags n → ((k : ℕ) → k < n → get_or (steps_of n s tag) k 0 ≡ 0 → state n tag k ≡ 0) → tag ≡ normal_tag n s (steps_of n s tag)
  calm_is_normal t calm =
      agree_below (2 * n) tag x t (normal_is_tag n s source (steps_of n s tag) (steps_of_tag n s tag).stages) (agree_by_bits (2 * n) tag x bits)
    where
      x : ℕ
      x = normal_tag n s (steps_of n s tag)

      at_state : (k : ℕ) → k < n → Dec (get_or (steps_of n s tag) k 0 ≡ 0) → state n tag k ≡ state n x k
      at_state k h (yes z) = calm k h z ∙ sym (straight_cleared k h z)
      at_state k h (no z) = sym (turns_kept k h z)

      at_bit : (i : ℕ) → i < 2 * n → Dec (i < n) → bit i tag ≡ bit i x
      at_bit i h (yes l) = agree_bit i n tag x l (sym normal_keeps_destination)
      at_bit i h (no l) =
          let k : ℕ = i - n in
          let e : n + k ≡ i = omega arith in
          subst (λ (m : ℕ). bit m tag ≡ bit m x) e (at_state k (omega arith) (ℕ_discrete (get_or (steps_of n s tag) k 0) 0))

      bits : (i : ℕ) → i < 2 * n → bit i tag ≡ bit i x
      bits i h = at_bit i h (dec_lt i n)

-- steps have no other normal tag
pub normal_tag_only : (n s : ℕ) → s < size n → (cs : List ℕ) (tag : ℕ) → IsNormal n s cs tag → tag ≡ normal_tag n s cs
normal_tag_only n s source cs tag p =
    calm_is_normal n s source tag p.is_tag (λ k h z. p.calm k h (sym (ap (λ (l : List ℕ). get_or l k 0) p.leads) ∙ z)) ∙ ap (normal_tag n s) p.leads

-- and different steps have different ones
pub normal_tags_differ : (n s : ℕ) → s < size n → (cs ds : List ℕ) → Steps n cs → Steps n ds → normal_tag n s cs ≡ normal_tag n s ds → cs ≡ ds
normal_tags_differ n s source cs ds p q e =
    sym (steps_come_back n s source cs p) ∙ ap (steps_of n s) e ∙ steps_come_back n s source ds q
