-- The longest sheet that the header accepts, the longest text, and what the front of a longer input answers.
use Rattle.std.specs.Prelude.{Ok, Err}
use mathlib.Core.Path.{◌≡◌, refl, sym, subst, ◌∙◌}
use mathlib.Core.Bool.{Bool, true, false, not}
use mathlib.Core.Logic.{◌⊎◌, inl, inr}
use mathlib.Core.List.{List, [], ◌∷◌, ◌++◌}
use Prim.Native.Nat.{ℕ, ◌+◌, ◌*◌, ◌≤◌, ◌<◌}
use native.Mathlib.Decide.{dec_le}
use native.Mathlib.Omega.{arith}
use borrow.Author.Tests.{le-ltb, lt-ltb}
use lib.Dec.{eqb}
use lib.ListN.{length, take, length-append}
use lib.Seq.{length-take-le, get_or-take, take_all, take-append_seam}
use Rattle.table.specs.Reply.{refused}
use Rattle.table.specs.Checks.{checked, ◌when◌, ◌below◌, Passed.none, Passed.passes}
use Rattle.table.proofs.Checks.{passed_nth, neither_of, one_of, other_of, unequal, equal}
use Rattle.fabric.specs.Labels.{outside_sizes}
use Rattle.actions.specs.Layout.{bytes_before}
use Rattle.actions.proofs.Laid.{two_lengths}
use Rattle.sheet.specs.Format.{header_bytes, version_in, size_in, count_in, each_in, HeaderRead, headed}
use Rattle.sheet.specs.Entries.{header_says, wrong_mark, wrong_length, header_checks, ReadsHeader}
use Rattle.sheet.proofs.Meanings.{length_exactly}
use Rattle.sheet.proofs.Promises.{header_accepts, header_passed}
use Rattle.sheet.proofs.Sheets.{header_read}
use Rattle.sheet.proofs.Cuts.{marks_agree}
use Rattle.printed.specs.Runs.{room, Prints}
use Rattle.printed.proofs.Promises.{room_within}
use Rattle.input.specs.Rooms.{longest_sheet, input_room, text_room}

-- whatever the version, so many actions have no more bytes than those of version 2
few_enough : (sheet : List ℕ) → count_in sheet ≤ 4096 → bytes_before (each_in sheet) (count_in sheet) ≤ longest_sheet
few_enough sheet few = go (two_lengths (version_in sheet))
  where
    go : (each_in sheet ≡ 10) ⊎ (each_in sheet ≡ 11) → bytes_before (each_in sheet) (count_in sheet) ≤ longest_sheet
    go (inl e) = rw e (omega arith)
    go (inr e) = rw e (omega arith)

-- a sheet that the header accepts is no longer than the longest,
pub none_is_longer : {sheet : List ℕ} {n count version : ℕ} → ReadsHeader sheet (headed n count version) → length sheet ≤ longest_sheet
none_is_longer {sheet} q =
    let w = (length_exactly sheet).0 (passed_nth (header_checks sheet) 2 (header_passed q)) in
    subst (λ (m : ℕ). m ≤ longest_sheet) (sym w.1) (few_enough sheet w.0)

-- and every sheet of version 2 with 4,096 actions is that long, and accepted
pub longest_is_accepted : (n : ℕ) (actions : List ℕ) → 1 ≤ n → n ≤ 12 → length actions ≡ 11 * 4096
    → (length (header_bytes 2 n 4096 ++ actions) ≡ longest_sheet) × ReadsHeader (header_bytes 2 n 4096 ++ actions) (headed n 4096 2)
longest_is_accepted n actions some few e =
    let sheet = header_bytes 2 n 4096 ++ actions in
    let long : length sheet ≡ longest_sheet = omega arith in
    let size : outside_sizes n ≡ false = neither_of (n below 1) (12 below n) (le-ltb n 1 some) (le-ltb 12 n few) in
    let whole : wrong_length sheet ≡ false = equal long in
    (long, header_accepts (passes (header_read 2 n 4096 actions (inr refl)).3 (passes size (passes whole none))) refl refl)

-- no run asks for more room than that of the longest sheet
pub text_fits : {sheet : List ℕ} (h : HeaderRead) → ReadsHeader sheet h → room h ≤ text_room
text_fits h reads = let e = room_within h reads in omega arith

-- and the longest sheet asks for all of it
pub text_is_asked : (n : ℕ) → room (headed n 4096 2) ≡ text_room
text_is_asked n = refl

-- what is longer than the longest sheet has a wrong length, whatever count stands in it
length_is_wrong : (sheet : List ℕ) → longest_sheet < length sheet → wrong_length sheet ≡ true
length_is_wrong sheet long = go (dec_le (count_in sheet) 4096)
  where
    many : Bool
    many = 4096 below count_in sheet

    other : Bool
    other = not (eqb (length sheet) (bytes_before (each_in sheet) (count_in sheet)))

    go : Dec (count_in sheet ≤ 4096) → wrong_length sheet ≡ true
    go (yes few) = other_of many other (le-ltb 4096 (count_in sheet) few) (unequal (λ (e : length sheet ≡ bytes_before (each_in sheet) (count_in sheet)). let most = few_enough sheet few in omega arith))
    go (no more) = one_of many other (lt-ltb 4096 (count_in sheet) (omega arith))

-- "14, 1, 15": such an input is refused, by its first eight bytes and for its length
pub longer_is_refused : (input : List ℕ) (h : HeaderRead) → longest_sheet < length input → ReadsHeader input h
    → header_says h ≡ checked ((14 when wrong_mark (take 8 input)) ∷ (1 when outside_sizes (size_in (take 8 input))) ∷ []) refused (refused 15)
longer_is_refused input h long reads =
    let eight = length-take-le 8 input (omega arith) in
    let mark = marks_agree input 8 (omega arith) (omega arith) (omega arith) in
    let size : size_in (take 8 input) ≡ size_in input = get_or-take 8 input 5 0 (omega arith) in
    reads.says ∙ rw (length_is_wrong input long, mark, size)

-- so the front of an input answers as all of it does, where the memory has room for the longest sheet and one byte more
pub front_answers : (input : List ℕ) (m : ℕ) (h : HeaderRead) → input_room ≤ m → ReadsHeader (take m input) h → ReadsHeader input h
front_answers input m h room reads = go (dec_le (length input) m)
  where
    go : Dec (length input ≤ m) → ReadsHeader input h
    go (yes all) = rw (take_all m input all) at reads
    go (no more) =
        let cut : length (take m input) ≡ m = length-take-le m input (omega arith) in
        let mark = marks_agree input m (omega arith) (omega arith) (omega arith) in
        let size : size_in (take m input) ≡ size_in input = get_or-take m input 5 0 (omega arith) in
        let wrong = length_is_wrong (take m input) (omega arith) in
        record { says = reads.says ∙ rw (wrong, length_is_wrong input (omega arith), mark, size) }

-- a byte less would not do: the front of a longest sheet and a byte is then that sheet, which is accepted, and all of it is refused
pub a_byte_less_misleads : (m byte : ℕ) (sheet : List ℕ) {n count version : ℕ} → m + 1 ≡ input_room → length sheet ≡ longest_sheet → ReadsHeader sheet (headed n count version)
    → ReadsHeader (take m (sheet ++ (byte ∷ []))) (headed n count version) × (ReadsHeader (sheet ++ (byte ∷ [])) (headed n count version) → ⊥)
a_byte_less_misleads m byte sheet least long reads =
    let same : m ≡ length sheet = omega arith in
    let all = length-append sheet (byte ∷ []) in
    (rw (same, take-append_seam sheet (byte ∷ [])) reads, λ taken. let short = none_is_longer taken in omega arith)

-- the front of an input that the header accepts is all of it
pub front_is_all : (input : List ℕ) (m : ℕ) {n count version : ℕ} → input_room ≤ m → ReadsHeader (take m input) (headed n count version) → take m input ≡ input
front_is_all input m room reads = go (dec_le (length input) m)
  where
    go : Dec (length input ≤ m) → take m input ≡ input
    go (yes all) = take_all m input all
    go (no more) =
        let cut : length (take m input) ≡ m = length-take-le m input (omega arith) in
        let few = none_is_longer reads in
        absurd (omega arith)

-- and what is printed of it is what is printed of all of it
pub front_prints : (input : List ℕ) (m : ℕ) (h : HeaderRead) (text : List ℕ) → input_room ≤ m → ReadsHeader (take m input) h → Prints (take m input) h text → Prints input h text
front_prints input m (Err why) text room reads p = p
front_prints input m (Ok head) text room reads p = let n = head.n in let count = head.count in let version = head.version in rw (front_is_all input m room reads) at p
