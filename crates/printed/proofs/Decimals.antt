-- Laws of numbers as text.
use mathlib.Core.Path.{◌≡◌, refl, ap, ◌∙◌}
use mathlib.Core.Bool.{false}
use mathlib.Core.List.{List, [], ◌∷◌, ◌++◌}
use Prim.Native.Nat.{ℕ, zero, suc, ◌+◌, ◌-◌, ◌*◌, ◌/◌, ◌%◌, ◌≤◌, ◌<◌}
use native.Mathlib.Nat.{zero-add}
use native.Mathlib.Decide.{dec_lt}
use native.Mathlib.Omega.{arith}
use borrow.Author.Tests.{lt-ltb, le-ltb}
use lib.ListN.{length, get_or}
use Rattle.fabric.specs.Labels.{bit}
use Rattle.table.specs.Checks.{◌below◌}
use Rattle.printed.specs.Words.{ascii, decimal_in, decimal, bits_from, tag_bits}

-- numbers, and the bits of a tag, as docs/RULES.md writes them
pub numbers_spelled : decimal 0 ∷ decimal 10 ∷ decimal 4096 ∷ decimal 65535 ∷ tag_bits 3 8 ∷ []
    ≡ ascii "0" ∷ ascii "10" ∷ ascii "4096" ∷ ascii "65535" ∷ ascii "000100" ∷ []
unfolding decimal_in bits_from
numbers_spelled = refl

-- more digits than there are make no difference
most_any : (f g x : ℕ) → x < f → x < g → decimal_in f x ≡ decimal_in g x
unfolding decimal_in
most_any zero g x h k = absurd (omega arith)
most_any (suc f) zero x h k = absurd (omega arith)
most_any (suc f) (suc g) x h k = go (dec_lt x 10) (λ d. most_any f g (x / 10) (omega arith) (omega arith))
  where
    go : Dec (x < 10) → (10 ≤ x → decimal_in f (x / 10) ≡ decimal_in g (x / 10)) → decimal_in (suc f) x ≡ decimal_in (suc g) x
    go (yes d) on = rw (lt-ltb x 10 d)
    go (no d) on =
        let e : (x below 10) ≡ false = le-ltb x 10 (omega arith) in
        rw e (ap (λ (l : List ℕ). l ++ (48 + x % 10) ∷ []) (on (omega arith)))

pub decimal_one : (x : ℕ) → x < 10 → decimal x ≡ (48 + x) ∷ []
unfolding decimal_in
decimal_one x h = rw (lt-ltb x 10 h)

pub decimal_more : (x : ℕ) → 10 ≤ x → decimal x ≡ decimal (x / 10) ++ (48 + x % 10) ∷ []
unfolding decimal_in
decimal_more x h =
    rw (le-ltb x 10 h) (ap (λ (l : List ℕ). l ++ (48 + x % 10) ∷ []) (most_any x (suc (x / 10)) (x / 10) (omega arith) (omega arith)))

-- "the 2n bits of the tag, bit 0 first"
pub length_bits : (i left x : ℕ) → length (bits_from i left x) ≡ left
unfolding bits_from
length_bits i zero x = refl
length_bits i (suc left) x = ap suc (length_bits (suc i) left x)

pub bits_at : (i left x k : ℕ) → k < left → get_or (bits_from i left x) k 0 ≡ 48 + bit (i + k) x
unfolding bits_from
bits_at i zero x k h = absurd (omega arith)
bits_at i (suc left) x zero h = ap (λ (m : ℕ). 48 + bit m x) {x = i} {y = i + 0} (omega arith)
bits_at i (suc left) x (suc k) h =
    bits_at (suc i) left x k (omega arith) ∙ ap (λ (m : ℕ). 48 + bit m x) {x = suc i + k} {y = i + suc k} (omega arith)

-- "`TAG` and the 2n bits of the tag, bit 0 first"
pub tag_bits_at : (n tag : ℕ) → (length (tag_bits n tag) ≡ 2 * n) × ((k : ℕ) → k < 2 * n → get_or (tag_bits n tag) k 0 ≡ 48 + bit k tag)
tag_bits_at n tag = (length_bits 0 (2 * n) tag, λ k h. bits_at 0 (2 * n) tag k h ∙ ap (λ (i : ℕ). 48 + bit i tag) (zero-add k))

-- what digits read as, after a number that was read before them
abbrev pub read_after : ℕ → List ℕ → ℕ
read_after x [] = x
read_after x (c ∷ cs) = read_after (10 * x + (c - 48)) cs

read_last : (cs : List ℕ) (x c : ℕ) → read_after x (cs ++ c ∷ []) ≡ 10 * read_after x cs + (c - 48)
read_last [] x c = refl
read_last (a ∷ cs) x c = read_last cs (10 * x + (a - 48)) c

-- a number's digits read as the number
reads_in : (most x : ℕ) → x < most → read_after 0 (decimal_in most x) ≡ x
unfolding decimal_in
reads_in zero x h = absurd (omega arith)
reads_in (suc most) x h = go (dec_lt x 10) (λ d. reads_in most (x / 10) (omega arith))
  where
    go : Dec (x < 10) → (10 ≤ x → read_after 0 (decimal_in most (x / 10)) ≡ x / 10) → read_after 0 (decimal_in (suc most) x) ≡ x
    go (yes d) on = rw (lt-ltb x 10 d) (omega arith)
    go (no d) on =
        let i = on (omega arith) in
        let e : (x below 10) ≡ false = le-ltb x 10 (omega arith) in
        rw e (read_last (decimal_in most (x / 10)) 0 (48 + x % 10) ∙ omega arith)

pub decimal_reads : (x : ℕ) → read_after 0 (decimal x) ≡ x
decimal_reads x = reads_in (suc x) x (omega arith)

-- the first digit is 0 for the number 0 alone
leads_in : (most x : ℕ) → x < most → 0 < x → 48 < get_or (decimal_in most x) 0 0
unfolding decimal_in
leads_in zero x h z = absurd (omega arith)
leads_in (suc most) x h z = go (dec_lt x 10) (λ d. leads_in most (x / 10) (omega arith) (omega arith))
  where
    go : Dec (x < 10) → (10 ≤ x → 48 < get_or (decimal_in most (x / 10)) 0 0) → 48 < get_or (decimal_in (suc most) x) 0 0
    go (yes d) on = rw (lt-ltb x 10 d) (omega arith)
    go (no d) on =
        let i = on (omega arith) in
        let e : (x below 10) ≡ false = le-ltb x 10 (omega arith) in
        rw e (front (decimal_in most (x / 10)) i)
      where
        front : (l : List ℕ) → 48 < get_or l 0 0 → 48 < get_or (l ++ (48 + x % 10) ∷ []) 0 0
        front [] j = absurd (omega arith)
        front (c ∷ cs) j = j

pub no_leading_zero : (x : ℕ) → 0 < x → 48 < get_or (decimal x) 0 0
no_leading_zero x z = leads_in (suc x) x (omega arith) z
