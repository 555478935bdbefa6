-- What a host reads off the numbers that hold more than one value: the header's, and that of an action's part.
use mathlib.Core.Path.{◌≡◌, refl, ap}
use mathlib.Core.Logic.{◌⊎◌, inl, inr}
use mathlib.Core.List.{List, []}
use Prim.Native.Nat.{ℕ, ◌+◌, ◌*◌, ◌/◌, ◌%◌, ◌≤◌}
use native.Mathlib.Omega.{arith}
use lib.ListN.{length, take, drop, length-take}
use Rattle.table.specs.Checks.{Given, Passed}
use Rattle.table.proofs.Checks.{given_refuses, passed_accepts, given_or_passed, passed_nth}
use Rattle.packing.specs.Packed.{packed, Tells}
use Rattle.packer.specs.Headers.{header_told}
use Rattle.packer.proofs.Headers.{header_unpacks}
use Rattle.packing.proofs.Once.{tells_all}
use Rattle.actions.specs.Layout.{bytes_before}
use Rattle.sheet.specs.Format.{version_in, each_in, headed}
use Rattle.sheet.specs.Entries.{header_checks, ReadsHeader, there_checks, start_of, part_of}
use Rattle.sheet.proofs.Promises.{header_passed, header_fields, header_sizes}
use Rattle.sheet.proofs.Meanings.{length_exactly}
use Rattle.actions.proofs.Laid.{two_lengths}
use Rattle.sheet.proofs.Sheets.{header_once}

-- 0 in the low byte, and of the value n in the low byte, the count from bit 8 on, the version from bit 24 on
pub header_read_off : (sheet : List ℕ) (n count version r : ℕ) → ReadsHeader sheet (headed n count version) → Tells (ReadsHeader sheet) header_told r
    → (r % 256 ≡ 0) × (r / 256 % 256 ≡ n) × (r / 256 / 256 % 65536 ≡ count) × (r / 256 / 16777216 ≡ version)
header_read_off sheet n count version r reads t =
    let e : r ≡ packed (header_told (headed n count version)) = tells_all (ReadsHeader sheet) header_told (header_once sheet) r t (headed n count version) reads in
    let size = (header_sizes reads refl).1 in
    let same = (header_fields reads).1 in
    let few = ((length_exactly sheet).0 (passed_nth (header_checks sheet) 2 (header_passed reads))).0 in
    rw e (header_unpacks n count version (omega arith) (omega arith))

-- a part has ten bytes, or eleven, or none
part_short : (sheet : List ℕ) (k : ℕ) → length (part_of sheet k) ≤ 11
part_short sheet k = go (given_or_passed (there_checks sheet k))
  where
    there : List ℕ
    there = take (each_in sheet) (drop (bytes_before (each_in sheet) k) sheet)

    few : (each_in sheet ≡ 10) ⊎ (each_in sheet ≡ 11) → each_in sheet ≤ 11
    few (inl e) = omega arith
    few (inr e) = omega arith

    go : ((j : ℕ) × Given j (there_checks sheet k)) ⊎ Passed (there_checks sheet k) → length (part_of sheet k) ≤ 11
    go (inl g) = let e = ap (λ (l : List ℕ). length l) (given_refuses (λ j. []) there g.0 (there_checks sheet k) g.1) in omega arith
    go (inr p) =
        let e = ap (λ (l : List ℕ). length l) (passed_accepts (λ j. []) there (there_checks sheet k) p) in
        let short = length-take (each_in sheet) (drop (bytes_before (each_in sheet) k) sheet) in
        let each = few (two_lengths (version_in sheet)) in
        omega arith

-- how many bytes the part has in the low byte, and where it starts from bit 8 on
pub part_read_off : (sheet : List ℕ) (k r : ℕ) → r ≡ length (part_of sheet k) + 256 * start_of sheet k → (r % 256 ≡ length (part_of sheet k)) × (r / 256 ≡ start_of sheet k)
part_read_off sheet k r e =
    let short = part_short sheet k in
    (read_low (length (part_of sheet k)) (start_of sheet k) r short e, read_high (length (part_of sheet k)) (start_of sheet k) r short e)
  where
    read_low : (l s r : ℕ) → l ≤ 11 → r ≡ l + 256 * s → r % 256 ≡ l
    read_low l s r h e = omega arith

    read_high : (l s r : ℕ) → l ≤ 11 → r ≡ l + 256 * s → r / 256 ≡ s
    read_high l s r h e = omega arith
