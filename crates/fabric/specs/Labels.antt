-- docs/RULES.md, 'Fabric' and 'Tags and steps': sizes, labels and their bits.
use Rattle.std.specs.Prelude.{◌≡◌, ℕ, ◌/◌, ◌%◌, ◌^◌, Bool, ◌||◌}
use Rattle.table.specs.Checks.{◌below◌}

-- "The number of stages, n, lies between 1 and 12": `outside_exactly` (proofs/Tests.antt)
abbrev pub outside_sizes : ℕ → Bool
outside_sizes n = n below 1 || 12 below n

-- N, "Its size N is 2^n", 0 to N-1: `sizes_in_order` (proofs/Tests.antt)
abbrev pub size : ℕ → ℕ
size n = 2 ^ n

-- "Bits are counted from the lowest, which is bit 0." `low_more` says that bit k stands for 2^k, `agree_below` with
-- `agree_by_bits` that a number below 2^k is known by its bits 0 to k-1 (proofs/Bits.antt).
abbrev pub bit : ℕ → ℕ → ℕ
bit i x = x / 2 ^ i % 2

-- two labels agree in their low k bits: `agree_bit`, and back `agree_by_bits` (proofs/Bits.antt)
abbrev pub Agree : ℕ → ℕ → ℕ → Type 0
Agree k x y = x % 2 ^ k ≡ y % 2 ^ k
