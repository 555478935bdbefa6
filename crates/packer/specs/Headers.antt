-- What the header's answer says to C and Rust.
use Rattle.sheet.specs.Format.{HeaderRead}
use Rattle.sheet.specs.declared.Header.{Header}
use Rattle.std.specs.Prelude.{List, [], ◌∷◌, ℕ, ◌/◌, ◌%◌}
use Rattle.table.specs.Reply.{Reply, says}
use Rattle.packing.specs.Packed.{byte}

-- n, the count and the version. Each value but the last has one byte, so the count goes as its two, the low one first: `header_unpacks` (proofs/Headers.antt)
-- says that n is in the low byte of the value, the count from bit 8 on and the version from bit 24 on, `header_read_off` (face/proofs/Hosts.antt) that a host finds them so.
abbrev pub header_values : Header → List ℕ
header_values head = head.n ∷ head.count % byte ∷ head.count / byte ∷ head.version ∷ []

abbrev pub header_told : HeaderRead → Reply
header_told = says header_values
