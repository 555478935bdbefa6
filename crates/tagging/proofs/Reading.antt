-- What the loop of steps to tag collects from the bytes that it reads.
use mathlib.Core.Path.{◌≡◌, sym, ap, ap₂, subst, ◌∙◌}
use mathlib.Core.List.{List}
use Prim.Native.Nat.{ℕ, ◌+◌, ◌*◌, ◌^◌, ◌≤◌, ◌<◌}
use native.Mathlib.Numerals.{add-one}
use native.Mathlib.Omega.{arith}
use lib.ListN.{length, take, get_or}
use lib.Seq.{length-take-le, get_or-take, take_all}
use Rattle.fabric.specs.Labels.{size, bit}
use Rattle.fabric.specs.Links.{lands}
use Rattle.fabric.specs.Walks.{walked, switch_at}
use Rattle.fabric.proofs.Stages.{switch_next}
use Rattle.scheme.specs.Scheme.{state_for}
use Rattle.scheme.specs.Tags.{states_of, normal_tag}
use Rattle.scheme.proofs.States.{states_lt, states_next, states_small}

module _ (n s : ℕ) (bytes : List ℕ) (i j states : ℕ) (bound : n ≤ length bytes) where
  -- one stage on: the switch, the states, and that the states stay small
  pub collects : (b st added : ℕ) → i < n → j ≡ switch_at n s (take n bytes) i → states ≡ states_of n 0 s (take i (take n bytes))
      → b ≡ bit i j → st ≡ state_for b (get_or bytes i 0) → added ≡ st * 2 ^ i
      → (lands n i (get_or bytes i 0) j ≡ switch_at n s (take n bytes) (i + 1))
      × (states + added ≡ states_of n 0 s (take (i + 1) (take n bytes)))
      × (states + added < 2 ^ (i + 1))
  collects b st added h at so eb es ea =
      let cs : List ℕ = take n bytes in
      let l : length cs ≡ n = length-take-le n bytes bound in
      let code : get_or bytes i 0 ≡ get_or cs i 0 = sym (get_or-take n bytes i 0 h) in
      let sum : states + added ≡ states_of n 0 s (take (i + 1) cs) =
      rw (ea, es, eb, code, at, so) (sym (states_next n s cs i (omega arith))) in
      (rw (code, at, add-one) (sym (switch_next n s cs i (omega arith))), sum, rw sum (states_small n s cs (i + 1) (omega arith)))

  -- at the end: the normal tag
  pub collected : i ≡ n → j ≡ switch_at n s (take n bytes) i → states ≡ states_of n 0 s (take i (take n bytes))
      → (states < size n) × (j + size n * states ≡ normal_tag n s (take n bytes))
  collected e at so =
      let cs : List ℕ = take n bytes in
      let l : length cs ≡ n = length-take-le n bytes bound in
      let all : take i cs ≡ cs = take_all i cs (omega arith) in
      let states_all : states ≡ states_of n 0 s cs = so ∙ ap (states_of n 0 s) all in (
        rw states_all (subst (λ (m : ℕ). states_of n 0 s cs < 2 ^ m) l (states_lt n 0 s cs)),
        ap₂ (λ (x y : ℕ). x + size n * y) (at ∙ ap (walked n 0 s) all) states_all,
      )
