-- docs/RULES.md, 'Tags and steps': tags, the steps of a tag, and the normal tag of steps.
use Rattle.std.specs.Prelude.{◌≡◌, List, [], ◌∷◌, ℕ, zero, suc, ◌+◌, ◌*◌, ◌^◌, ◌%◌, ◌<◌, get_or}
use Rattle.fabric.specs.Labels.{size, bit}
use Rattle.fabric.specs.Links.{lands}
use Rattle.fabric.specs.Walks.{walked}
use Rattle.scheme.specs.Scheme.{link, state_for}

-- "A tag has 2n bits: it is less than 2^(2n)." `tags_counted` (proofs/Tags.antt)
abbrev pub tags : ℕ → ℕ
tags n = 2 ^ (2 * n)

-- "The low n bits hold the destination": `tag_destination` (proofs/Tags.antt), and the steps lead there, `tag_arrives` (proofs/Steps.antt)
abbrev pub destination : ℕ → ℕ → ℕ
destination n tag = tag % size n

-- "bit n+i holds the state of stage i": `tag_state` (proofs/Tags.antt)
abbrev pub state : ℕ → ℕ → ℕ → ℕ
state n tag i = bit (n + i) tag

-- the steps of `left` stages from stage i on, at switch j, toward d, where every switch of every stage has a state (the state of the
-- network). `steered_follows` and `follows_steered` say that it is the table's choice at each switch reached, and no other
-- (proofs/Steps.antt).
unfoldable pub steered : ℕ → ℕ → (ℕ → ℕ → ℕ) → ℕ → ℕ → ℕ → List ℕ
steered n d states zero i j = []
steered n d states (suc left) i j =
    let c : ℕ = link (bit i j) (bit i d) (states i j) in
    c ∷ steered n d states left (suc i) (lands n i c j)

-- tag to steps: every switch of stage i has the state that the tag gives stage i. `tag_follows` and `follows_tag` say that
-- these are the n codes, and the only ones, that the table chooses stage by stage (proofs/Steps.antt).
abbrev pub steps_of : ℕ → ℕ → ℕ → List ℕ
steps_of n s tag = steered n tag (λ i j. state n tag i) n 0 s

-- the states of steps that leave switch j of column i, as a number: the state of the first step is its lowest bit, and bit k that of
-- step k, `states_bit` (proofs/States.antt)
unfoldable pub states_of : ℕ → ℕ → ℕ → List ℕ → ℕ
states_of n i j [] = 0
states_of n i j (c ∷ cs) = state_for (bit i j) c + 2 * states_of n (suc i) (lands n i c j) cs

-- steps to tag: "the destination that they lead to, and state 0 at each straight step". `normal_tag_is` and
-- `normal_tag_only` say that of the tags whose steps these are it is the one, and the only one, with that property
-- (proofs/NormalTags.antt).
abbrev pub normal_tag : ℕ → ℕ → List ℕ → ℕ
normal_tag n s cs = walked n 0 s cs + size n * states_of n 0 s cs

-- a normal tag of steps from a source, as docs/RULES.md says it: there is one, and only one, by the same two theorems
pub record IsNormal (n s : ℕ) (cs : List ℕ) (tag : ℕ) : Type 0 where
  pub is_tag : tag < tags n
  pub leads : steps_of n s tag ≡ cs
  pub reached : destination n tag ≡ walked n 0 s cs
  pub calm : (i : ℕ) → i < n → get_or cs i 0 ≡ 0 → state n tag i ≡ 0
