-- Theorems over the entries: no promise leaves a second answer, and a header is the format read backward.
use Rattle.std.specs.Prelude.{Err, Ok}
use mathlib.Core.Path.{◌≡◌, refl, sym, ap, ◌∙◌}
use mathlib.Core.Bool.{false, not, ◌||◌}
use mathlib.Core.Logic.{◌⊎◌, inl, inr}
use mathlib.Core.List.{List, ◌++◌}
use Prim.Native.Nat.{ℕ, ◌+◌, ◌≤◌, ◌<◌}
use native.Mathlib.Omega.{arith}
use borrow.Author.Tests.{le-ltb, eqb-true, not-false, ltb-false}
use lib.Dec.{eqb}
use lib.ListN.{length, take, get_or, drop, length-drop}
use lib.Seq.{length-take-le, get_or-take}
use Rattle.table.proofs.Answers.{answer_tells}
use Rattle.table.specs.Numbers.{number_of}
use Rattle.table.specs.Checks.{◌below◌}
use Rattle.table.proofs.Numbers.{number_tells}
use Rattle.table.proofs.Checks.{neither, zero_one}
use Rattle.table.specs.Reply.{Answer}
use Rattle.actions.specs.Layout.{bytes_before}
use Rattle.sheet.specs.Format.{header_bytes, version_in, size_in, count_in, each_in, HeaderRead}
use Rattle.sheet.specs.Entries.{header_says, wrong_version, wrong_mark, ReadsHeader, HasAction, start_of, part_of}
use Rattle.actions.proofs.Laid.{two_lengths}
use Rattle.actions.proofs.Layouts.{word_read, high_written, low_written, spells}
use Rattle.sheet.proofs.Meanings.{versions_pass}
use Rattle.sheet.proofs.Promises.{there_fits, part_there}

-- an answer is known by what it says
pub header_tells : (a b : HeaderRead) → header_says a ≡ header_says b → a ≡ b
header_tells (Ok head) (Ok next) e = let m = next.n in let many = next.count in let other = next.version in let n = head.n in let count = head.count in let version = head.version in
    let same : n ≡ m = cc in
    let often : count ≡ many = cc in
    let alike : version ≡ other = cc in
    rw (same, often, alike)
header_tells (Ok head) (Err r) e = let n = head.n in let count = head.count in let version = head.version in absurd (zero_one cc)
header_tells (Err q) (Ok head) e = let n = head.n in let count = head.count in let version = head.version in absurd (zero_one cc)
header_tells (Err q) (Err r) e = let z : number_of q ≡ number_of r = cc in ap Err (number_tells q r z)

-- no second answer
pub header_once : (sheet : List ℕ) (a b : HeaderRead) → ReadsHeader sheet a → ReadsHeader sheet b → a ≡ b
header_once sheet a b p q = header_tells a b (p.says ∙ sym q.says)

pub there_once : (sheet : List ℕ) (k : ℕ) (a b : Answer) → HasAction sheet k a → HasAction sheet k b → a ≡ b
there_once sheet k a b p q = answer_tells a b (p.says ∙ sym q.says)

pub part_once : (sheet : List ℕ) (k : ℕ) (x y : List ℕ) (i j : ℕ) → (x ≡ part_of sheet k) × (i ≡ start_of sheet k) → (y ≡ part_of sheet k) × (j ≡ start_of sheet k) → (x ≡ y) × (i ≡ j)
part_once sheet k x y i j p q = (p.0 ∙ sym q.0, p.1 ∙ sym q.1)

-- "A sheet begins with a header of eight bytes: the letters FSH, the version in two bytes, n in one, and the count of actions in two.", or version 2: what is
-- written is read,
pub header_read : (version n count : ℕ) (rest : List ℕ) → (version ≡ 1) ⊎ (version ≡ 2)
    → let sheet : List ℕ = header_bytes version n count ++ rest in (version_in sheet ≡ version) × (size_in sheet ≡ n) × (count_in sheet ≡ count) × (wrong_mark sheet ≡ false)
header_read version n count rest v = (word_read version, refl, word_read count, mark (length rest))
  where
    mark : (m : ℕ) → wrong_mark (header_bytes version n count ++ rest) ≡ false
    mark m = rw (le-ltb (length (header_bytes version n count ++ rest)) 8 (omega arith), word_read version) ((versions_pass version).1 v)

-- and what is read was written so
pub header_written : (sheet : List ℕ) → ((i : ℕ) → get_or sheet i 0 < 256) → wrong_mark sheet ≡ false
    → ((version_in sheet ≡ 1) ⊎ (version_in sheet ≡ 2)) × (take 8 sheet ≡ header_bytes (version_in sheet) (size_in sheet) (count_in sheet))
header_written sheet bytes right =
    let at : ℕ → ℕ = λ i. get_or sheet i 0 in
    let none : (x y : ℕ) → not (eqb x y) ≡ false → x ≡ y = λ x y e. eqb-true x y (not-false (eqb x y) e) in
    let v = neither (length sheet below 8 || not (eqb (at 0) 70) || not (eqb (at 1) 83) || not (eqb (at 2) 72)) (wrong_version (version_in sheet)) right in
    let h = neither (length sheet below 8 || not (eqb (at 0) 70) || not (eqb (at 1) 83)) (not (eqb (at 2) 72)) v.0 in
    let s = neither (length sheet below 8 || not (eqb (at 0) 70)) (not (eqb (at 1) 83)) h.0 in
    let f = neither (length sheet below 8) (not (eqb (at 0) 70)) s.0 in
    let long : 8 ≤ length sheet = ltb-false (length sheet) 8 f.0 in
    let first : (i : ℕ) → i < 8 → get_or (take 8 sheet) i 0 ≡ get_or sheet i 0 = λ i h. get_or-take 8 sheet i 0 h in
    let eight : 0 + 8 ≡ length (take 8 sheet) = sym (length-take-le 8 sheet long) in (
      (versions_pass (version_in sheet)).0 v.1,
      spells 8 0 (take 8 sheet) eight
          ∙ rw (first 0 (omega arith), first 1 (omega arith), first 2 (omega arith), first 3 (omega arith), first 4 (omega arith), first 5 (omega arith), first 6 (omega arith), first 7 (omega arith))
          (rw (none (at 0) 70 f.1, none (at 1) 83 s.1, none (at 2) 72 h.1, high_written (at 3) (at 4) (bytes 4), low_written (at 3) (at 4) (bytes 4), high_written (at 6) (at 7) (bytes 7), low_written (at 6) (at 7) (bytes 7))),
    )

-- the part of an action that is there has as many bytes as the sheet's version says: in one sheet all have one length
pub part_is_each : (sheet : List ℕ) (k : ℕ) → HasAction sheet k (Ok tt) → length (part_of sheet k) ≡ each_in sheet
part_is_each sheet k r =
    let fits = (there_fits r refl).1 in
    let start : ℕ = bytes_before (each_in sheet) k in
    let long : each_in sheet ≤ length (drop start sheet) = simp length-drop (omega arith) in
    ap length (sym (part_there r refl)) ∙ length-take-le (each_in sheet) (drop start sheet) long

-- ten in version 1 and eleven in version 2, and there is no third
pub part_is_ten_or_eleven : (sheet : List ℕ) (k : ℕ) → HasAction sheet k (Ok tt) → (length (part_of sheet k) ≡ 10) ⊎ (length (part_of sheet k) ≡ 11)
part_is_ten_or_eleven sheet k r = go (two_lengths (version_in sheet))
  where
    go : (each_in sheet ≡ 10) ⊎ (each_in sheet ≡ 11) → (length (part_of sheet k) ≡ 10) ⊎ (length (part_of sheet k) ≡ 11)
    go (inl e) = inl (part_is_each sheet k r ∙ e)
    go (inr e) = inr (part_is_each sheet k r ∙ e)
