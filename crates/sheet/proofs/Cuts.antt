-- A sheet that was cut short is no sheet.
use mathlib.Core.Path.{◌≡◌, ◌∙◌}
use mathlib.Core.Bool.{true, not}
use mathlib.Core.List.{List}
use mathlib.Core.Logic.{◌⊎◌, inl, inr}
use Prim.Native.Nat.{ℕ, ◌≤◌, ◌<◌}
use native.Mathlib.Decide.{dec_le}
use native.Mathlib.Omega.{arith}
use borrow.Author.Tests.{le-ltb, lt-ltb, eqb-true, not-false}
use lib.Dec.{eqb}
use lib.ListN.{length, take, get_or}
use lib.Seq.{length-take-le, get_or-take}
use Rattle.table.specs.Reply.{refused}
use Rattle.table.specs.Checks.{◌below◌}
use Rattle.table.proofs.Checks.{passed_nth, neither, other_of, unequal}
use Rattle.actions.specs.Layout.{bytes_before}
use Rattle.sheet.specs.Format.{size_in, count_in, each_in, HeaderRead, headed}
use Rattle.sheet.specs.Entries.{header_says, wrong_mark, wrong_length, header_checks, ReadsHeader}
use Rattle.sheet.proofs.Promises.{header_passed}

-- mark and version are read in the first eight bytes
pub marks_agree : (sheet : List ℕ) (k : ℕ) → 8 ≤ k → 8 ≤ length sheet → 8 ≤ length (take k sheet) → wrong_mark (take k sheet) ≡ wrong_mark sheet
marks_agree sheet k h long cut =
    let same : (i : ℕ) → i < 8 → get_or (take k sheet) i 0 ≡ get_or sheet i 0 = λ i j. get_or-take k sheet i 0 (omega arith) in
    rw (le-ltb (length (take k sheet)) 8 cut, le-ltb (length sheet) 8 long, same 0 (omega arith), same 1 (omega arith), same 2 (omega arith), same 3 (omega arith), same 4 (omega arith))

-- 14 where the header itself is cut, 15 where an action is
pub cut_is_refused : (sheet : List ℕ) (n count version k : ℕ) (h : HeaderRead) → ReadsHeader sheet (headed n count version) → k < length sheet → ReadsHeader (take k sheet) h
    → (header_says h ≡ refused 14) ⊎ (header_says h ≡ refused 15)
cut_is_refused sheet n count version k h whole less cut = go (dec_le 8 k)
  where
    long : length (take k sheet) ≡ k
    long = length-take-le k sheet (omega arith)

    go : Dec (8 ≤ k) → (header_says h ≡ refused 14) ⊎ (header_says h ≡ refused 15)
    go (no short) = inl (cut.says ∙ rw (lt-ltb (length (take k sheet)) 8 (omega (arith, long))))
    go (yes enough) =
        let passed = header_passed whole in
        let whole_length : ℕ = bytes_before (each_in sheet) (count_in sheet) in
        let w = neither (4096 below count_in sheet) (not (eqb (length sheet) whole_length)) (passed_nth (header_checks sheet) 2 passed) in
        let all : length sheet ≡ whole_length = eqb-true (length sheet) whole_length (not-false (eqb (length sheet) whole_length) w.1) in
        let mark = marks_agree sheet k enough (omega arith) (omega (arith, long)) in
        let size : size_in (take k sheet) ≡ size_in sheet = get_or-take k sheet 5 0 (omega arith) in
        let first : get_or (take k sheet) 3 0 ≡ get_or sheet 3 0 = get_or-take k sheet 3 0 (omega arith) in
        let second : get_or (take k sheet) 4 0 ≡ get_or sheet 4 0 = get_or-take k sheet 4 0 (omega arith) in
        let high : get_or (take k sheet) 6 0 ≡ get_or sheet 6 0 = get_or-take k sheet 6 0 (omega arith) in
        let low : get_or (take k sheet) 7 0 ≡ get_or sheet 7 0 = get_or-take k sheet 7 0 (omega arith) in
        let wrong : wrong_length (take k sheet) ≡ true =
        rw (first, second, high, low) (other_of (4096 below count_in sheet) (not (eqb (length (take k sheet)) whole_length)) w.0 (unequal (λ (e : length (take k sheet) ≡ whole_length). omega (arith, long, all)))) in
        inr (cut.says ∙ rw (mark, size, passed_nth (header_checks sheet) 0 passed, passed_nth (header_checks sheet) 1 passed, wrong))
