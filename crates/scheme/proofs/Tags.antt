-- A tag is a destination and n states above it.
use mathlib.Core.Path.{◌≡◌, sym, ap, ◌∙◌}
use Prim.Native.Nat.{ℕ, ◌+◌, ◌*◌, ◌/◌, ◌%◌, ◌^◌, ◌<◌}
use native.Mathlib.Nat.{zero-add, mod-eq_of_lt, add-mul-mod_self_left, add-mul-div_left, div-eq_of_lt}
use native.Mathlib.Omega.{arith}
use lib.Pow.{shr-shr, pow_pos, pow-add}
use Rattle.fabric.specs.Labels.{size, bit}
use Rattle.scheme.specs.Tags.{tags, destination, state}

-- "less than 2^(2n)": as many tags as there are destinations times n states
pub tags_counted : (n : ℕ) → tags n ≡ size n * size n
tags_counted n = ap (λ (m : ℕ). 2 ^ m) {x = 2 * n} {y = n + n} (omega arith) ∙ pow-add 2 n n

-- "The low n bits hold the destination, and bit n+i holds the state of stage i": of a tag made of the two
pub tag_destination : (n d states : ℕ) → d < size n → destination n (d + size n * states) ≡ d
tag_destination n d states h = add-mul-mod_self_left d (size n) states ∙ mod-eq_of_lt h

pub tag_state : (n d states i : ℕ) → d < size n → state n (d + size n * states) i ≡ bit i states
tag_state n d states i h =
    let x : ℕ = d + size n * states in
    let e : x / size n ≡ states =
    add-mul-div_left d states (pow_pos n) ∙ ap (λ (m : ℕ). m + states) (div-eq_of_lt h) ∙ zero-add states in
    ap (λ (m : ℕ). m % 2) (sym (shr-shr x n i)) ∙ ap (bit i) e
