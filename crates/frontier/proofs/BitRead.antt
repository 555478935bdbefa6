-- What reading a bit of a number gives.
use Rattle.std.proofs.Common.{◌≡◌, ℕ, ◌<◌, ap, ◌∙◌}
use Rattle.fabric.specs.Labels.{bit}

pub bit_read : (i x : ℕ) {r : ℕ} → (k : ℕ) × (k ≡ x) × (r ≡ bit i k) × (r < 2) → r ≡ bit i x
bit_read i x read = read.2 ∙ ap (bit i) read.1
