-- docs/RULES.md, 'Fabric': the three links of a switch.
use Rattle.std.specs.Prelude.{ℕ, zero, suc, ◌+◌, ◌-◌, ◌%◌, ◌^◌, ◌<◌}
use Rattle.fabric.specs.Labels.{size}

-- "Straight has code 0", "Plus has code 1", "Minus has code 2": `three_codes` (proofs/Links.antt)
abbrev pub Code : ℕ → Type 0
Code c = c < 3

-- "Three links leave switch j at stage i. Straight has code 0 and lands on j. Plus has code 1 and lands on j + 2^i. Minus has code 2 and
-- lands on j - 2^i. Every label is taken modulo N, whether it falls below 0 or reaches N." For a label below N, `straight_lands`,
-- `plus_lands` and `minus_lands` say it by sums, and `minus_then_plus` and `plus_then_minus` that the two undo each other
-- (proofs/Links.antt).
abbrev pub lands : ℕ → ℕ → ℕ → ℕ → ℕ
lands n i zero j = j
lands n i (suc zero) j = (j + 2 ^ i) % size n
lands n i (suc (suc c)) j = (j + (size n - 2 ^ i)) % size n
