-- What a host reads off the number of an accepted header, by remainders and quotients.
use Rattle.sheet.specs.Format.{headed}
use mathlib.Core.Path.{◌≡◌}
use Prim.Native.Nat.{ℕ, ◌/◌, ◌%◌, ◌<◌}
use native.Mathlib.Omega.{arith}
use Rattle.packing.specs.Packed.{packed}
use Rattle.packer.specs.Headers.{header_told}

-- 0 in the low byte, and of the value n in the low byte, the count from bit 8 on, the version from bit 24 on
pub header_unpacks : (n count version : ℕ) → n < 256 → count < 65536
    → let r : ℕ = packed (header_told (headed n count version)) in (r % 256 ≡ 0) × (r / 256 % 256 ≡ n) × (r / 256 / 256 % 65536 ≡ count) × (r / 256 / 16777216 ≡ version)
header_unpacks n count version small few = (omega arith, omega arith, omega arith, omega arith)
