-- An array that is filled from its front, one element more.
use Rattle.std.proofs.Common.{◌≡◌, ℕ, ◌+◌, ◌<◌, List, length, get_or, set, arith, get_or-set_other, get_or-set_same}
use native.Mathlib.Decide.{ℕ_discrete}

pub filled_more : {A : Type 0} (P : ℕ → A → Type 0) (d : A) (out : List A) (i : ℕ) (v : A) → i < length out → ((k : ℕ) → k < i → P k (get_or out k d)) → P i v
    → (k : ℕ) → k < i + 1 → P k (get_or (set out i v) k d)
filled_more P d out i v fits before new k h = go (ℕ_discrete k i)
  where
    go : Dec (k ≡ i) → P k (get_or (set out i v) k d)
    go (yes e) = rw (e, get_or-set_same out i v d fits) new
    go (no e) = rw (get_or-set_other out i k v d e) (before k (omega arith))
