-- The sheet of the final book: which it is, that it is the only answer, that it lies within the memory, and that it is its own final sheet.
use Rattle.std.specs.Prelude.{Ok, Err, Some, None}
use Rattle.input.specs.Answers.{Input}
use mathlib.Core.Path.{◌≡◌, refl, sym, ap, subst, ◌∙◌}
use mathlib.Core.Bool.{Bool}
use mathlib.Core.Logic.{◌↔◌}
use mathlib.Core.List.{List, [], ◌++◌, Memᴰ}
use Prim.Native.Nat.{ℕ, ◌+◌, ◌≤◌}
use native.Mathlib.Omega.{arith}
use lib.ListN.{length, take, drop, length-append}
use lib.Seq.{take-append_seam}
use Rattle.table.specs.declared.Refusal.{Refusal}
use Rattle.table.proofs.Checks.{zero_one}
use Rattle.notices.specs.declared.Notice.{Notice}
use Rattle.sheet.specs.Format.{header_bytes, HeaderRead, headed}
use Rattle.sheet.specs.Entries.{ReadsHeader}
use Rattle.sheet.proofs.Promises.{header_sizes}
use Rattle.sheet.proofs.Sheets.{header_once}
use Rattle.actions.specs.Rows.{rows}
use Rattle.standing.specs.Rising.{Filed}
use Rattle.book.specs.declared.Book.{Book}
use Rattle.book.specs.Standing.{standing}
use Rattle.book.specs.Entries.{opened}
use Rattle.changes.specs.Runs.{Change, run, StandsSince}
use Rattle.changes.specs.After.{Changes, After}
use Rattle.changes.proofs.After.{after_once}
use Rattle.book.proofs.Filings.{size_passes}
use Rattle.written.specs.Sheets.{version_for, each_for, sheet_of}
use Rattle.written.proofs.Since.{sheet_since, sheet_stands_in}
use Rattle.input.specs.Rooms.{input_room}
use Rattle.input.proofs.Answers.{some_input, answers_once, unread_exactly}
use Rattle.input.proofs.Rooms.{front_answers, front_is_all}
use Rattle.finals.specs.declared.NoSheet.{NoSheet}
use Rattle.finals.specs.Finals.{Final, FinalOf, WritesFinal, AnswersFinal, sheet_printed}

module _ {sheet before after : List ℕ} {answer : Final} (w : WritesFinal sheet before answer after) where
  final_by : (h : HeaderRead) → ReadsHeader sheet h → FinalOf sheet before h answer after
  final_by h reads = rw (header_once sheet w.header h w.reads reads) at w.final

  -- "A book is written as a sheet": from the one after all the actions of the sheet. "The answer is the length of the sheet, and the bytes after it are left."
  pub final_sheet : (n count version : ℕ) (b : Book) → ReadsHeader sheet (headed n count version) → After sheet n count b
      → (answer ≡ Ok (length (sheet_of b))) × (after ≡ sheet_of b ++ drop (length (sheet_of b)) before)
  final_sheet n count version b reads made =
      let x = final_by (headed n count version) reads in
      let e = after_once sheet n count x.0 b x.1 made in
      (x.2 ∙ ap (λ (c : Book). Ok (length (sheet_of c))) e, x.3 ∙ ap (λ (c : Book). sheet_of c ++ drop (length (sheet_of c)) before) e)

  -- the header's refusal, and nothing is written
  pub final_refusal : (why : Refusal) → ReadsHeader sheet (Err why) → (answer ≡ Err (NoSheet.Refused why)) × (after ≡ before)
  final_refusal why reads = final_by (Err why) reads

  -- and no refusal but the header's
  pub refused_exactly : (why : Refusal) → (answer ≡ Err (NoSheet.Refused why)) ↔ ReadsHeader sheet (Err why)
  refused_exactly why = ((λ e. go w.header w.reads w.final e), (λ reads. (final_refusal why reads).0))
    where
      go : (h : HeaderRead) → ReadsHeader sheet h → FinalOf sheet before h answer after → answer ≡ Err (NoSheet.Refused why) → ReadsHeader sheet (Err why)
      go (Ok head) reads x e = let n = head.n in let count = head.count in let version = head.version in
          let f : Err (NoSheet.Refused why) ≡ Ok (length (sheet_of x.0)) = sym e ∙ x.2 in
          absurd (zero_one cc)
      go (Err wherefore) reads x e =
          let f : Err (NoSheet.Refused why) ≡ Err (NoSheet.Refused wherefore) = sym e ∙ x.0 in
          let same : why ≡ wherefore = cc in
          rw same reads

-- no second answer and no second memory
pub final_once : (sheet before : List ℕ) (q r : Final) (x y : List ℕ) → WritesFinal sheet before q x → WritesFinal sheet before r y → (q ≡ r) × (x ≡ y)
final_once sheet before q r x y v w = go w.header w.reads w.final
  where
    go : (h : HeaderRead) → ReadsHeader sheet h → FinalOf sheet before h r y → (q ≡ r) × (x ≡ y)
    go (Ok head) reads z = let n = head.n in let count = head.count in let version = head.version in
        let u = final_sheet v n count version z.0 reads z.1 in
        (u.0 ∙ sym z.2, u.1 ∙ sym z.3)
    go (Err why) reads z =
        let u = final_refusal v why reads in
        (u.0 ∙ sym z.0, u.1 ∙ sym z.1)

-- "Run from an empty book, the sheet leads to a book that answers everything alike": what is written of a sheet is accepted, of the sheet's size
-- and with a filing for each notice that stands in its final book, and its final book is that same book;
module _ {sheet before after : List ℕ} {bytes : ℕ} (w : WritesFinal sheet before (Ok bytes) after) where
  written_of : (b : Book) → ◌≡◌ {A = Final} (Ok bytes) (Ok (length (sheet_of b))) → after ≡ sheet_of b ++ drop (length (sheet_of b)) before
      → (bytes ≡ length (sheet_of b)) × (take bytes after ≡ sheet_of b)
  written_of b tells leaves =
      let same : bytes ≡ length (sheet_of b) = cc in
      (same, ap (λ (k : ℕ). take k after) same ∙ ap (take (length (sheet_of b))) leaves ∙ take-append_seam (sheet_of b) (drop (length (sheet_of b)) before))

  pub final_book : (n count version : ℕ) (b : Book) → ReadsHeader sheet (headed n count version) → After sheet n count b
      → ReadsHeader (take bytes after) (headed n (length (standing b)) (version_for (standing b))) × After (take bytes after) n (length (standing b)) b
  final_book n count version b reads made =
      let x = final_sheet w n count version b reads made in
      let e = (written_of b x.0 x.1).1 in
      let size = header_sizes reads refl in
      subst (λ (s : List ℕ). ReadsHeader s (headed n (length (standing b)) (version_for (standing b))) × After s n (length (standing b)) b) (sym e)
      (subst (λ (c : Book). ReadsHeader (sheet_of c) (headed n (length (standing c)) (version_for (standing c))) × After (sheet_of c) n (length (standing c)) c) (sym made.makes)
      (sheet_stands_in n (size_passes n size.0 size.1) made.changes))

  -- it has a filing for each notice that the sheet's actions filed, accepted and not withdrawn since, by rising number;
  pub final_since : (n count version : ℕ) (changes : List Change) → ReadsHeader sheet (headed n count version) → Changes sheet count changes
      → (bad : Notice → Bool) (l : List Notice) → Filed bad 0 l → ((x : Notice) → Memᴰ x l ↔ StandsSince (opened n) changes x)
      → take bytes after ≡ header_bytes (version_for l) n (length l) ++ rows (each_for l) l
  final_since n count version changes reads held bad l rising these =
      let b : Book = run changes (opened n) in
      let x = final_sheet w n count version b reads (record { changes = changes; held = held; makes = refl }) in
      let size = header_sizes reads refl in
      (written_of b x.0 x.1).1 ∙ sheet_since n (size_passes n size.0 size.1) changes bad l rising these

  -- "that book, written again, gives the same bytes": given to the program again, it comes out the same, whatever lay in the memory
  pub final_again : (other : List ℕ) → WritesFinal (take bytes after) other (Ok bytes) (take bytes after ++ drop bytes other)
  final_again other = go w.header w.reads w.final
    where
      go : (h : HeaderRead) → ReadsHeader sheet h → FinalOf sheet before h (Ok bytes) after
          → WritesFinal (take bytes after) other (Ok bytes) (take bytes after ++ drop bytes other)
      go (Ok head) reads x = let n = head.n in let count = head.count in let version = head.version in
          let b : Book = x.0 in
          let e = written_of b x.2 x.3 in
          let f = final_book n count version b reads x.1 in
          record {
            header = headed n (length (standing b)) (version_for (standing b));
            reads = f.0;
            final = (b, f.1, ap Ok e.0, ap (λ (s : List ℕ). s ++ drop bytes other) e.1 ∙ ap (λ (k : ℕ). sheet_of b ++ drop k other) e.0);
          }
      go (Err why) reads x =
          let f : Ok bytes ≡ Err (NoSheet.Refused why) = x.0 in
          absurd (zero_one cc)

-- the front of a longer input is written as all of it is
pub front_final : (input before : List ℕ) (m : ℕ) (answer : Final) (after : List ℕ) → input_room ≤ m → WritesFinal (take m input) before answer after → WritesFinal input before answer after
front_final input before m answer after enough w = go w.header w.reads w.final
  where
    go : (h : HeaderRead) → ReadsHeader (take m input) h → FinalOf (take m input) before h answer after → WritesFinal input before answer after
    go (Ok head) reads x = let n = head.n in let count = head.count in let version = head.version in rw (front_is_all input m enough reads) at w
    go (Err why) reads x = record { header = Err why; reads = front_answers input m (Err why) enough reads; final = x }

-- what was read is written in one way alone,
pub final_answers_once : (memory : List ℕ) (read : Input) (before : List ℕ) (q r : Final) (x y : List ℕ)
    → AnswersFinal memory read before q x → AnswersFinal memory read before r y → (q ≡ r) × (x ≡ y)
final_answers_once = answers_once WritesFinal _ final_once

-- it is unread exactly where a read failed,
pub final_unread_exactly : {memory before after : List ℕ} (read : Input) {answer : Final} → AnswersFinal memory read before answer after → (answer ≡ Err NoSheet.Unread) ↔ (read ≡ None)
final_unread_exactly = unread_exactly WritesFinal _ none_unread
  where
    none_unread : (sheet before after : List ℕ) → WritesFinal sheet before (Err NoSheet.Unread) after → ⊥
    none_unread sheet before after w = go w.header w.final
      where
        go : (h : HeaderRead) → FinalOf sheet before h (Err NoSheet.Unread) after → ⊥
        go (Ok head) x = let n = head.n in let count = head.count in let version = head.version in let e = x.2 in zero_one cc
        go (Err why) x = let e = x.0 in zero_one cc

-- and the sheet lies within the memory
within_memory : {sheet before after : List ℕ} {bytes : ℕ} → WritesFinal sheet before (Ok bytes) after → bytes ≤ length after
within_memory {sheet} {before} {after} {bytes} w = go w.header w.final
  where
    go : (h : HeaderRead) → FinalOf sheet before h (Ok bytes) after → bytes ≤ length after
    go (Ok head) x = let n = head.n in let count = head.count in let version = head.version in
        let b : Book = x.0 in
        let f : Ok bytes ≡ Ok (length (sheet_of b)) = x.2 in
        let same : bytes ≡ length (sheet_of b) = cc in
        let l : length after ≡ length (sheet_of b) + length (drop (length (sheet_of b)) before) = ap length x.3 ∙ length-append (sheet_of b) (drop (length (sheet_of b)) before) in
        omega arith
    go (Err why) x =
        let f : Ok bytes ≡ Err (NoSheet.Refused why) = x.0 in
        absurd (zero_one cc)

pub final_within : {memory before after : List ℕ} {read : Input} {answer : Final} {bytes : ℕ} → AnswersFinal memory read before answer after → answer ≡ Ok bytes → bytes ≤ length after
final_within {memory} {before} {after} {read} {answer} {bytes} w e = go read refl
  where
    go : (r : Input) → read ≡ r → bytes ≤ length after
    go (Some count) is = within_memory (rw e at (w.whole count (take count memory) is (some_input memory count)))
    go None is =
        let f : Ok bytes ≡ Err NoSheet.Unread = sym e ∙ (w.failed is).0 in
        absurd (zero_one cc)

-- what goes to standard output: the sheet of the final book and nothing else,
pub prints_the_sheet : {sheet before after : List ℕ} {answer : Final} {n count version : ℕ} {b : Book} → WritesFinal sheet before answer after
    → ReadsHeader sheet (headed n count version) → After sheet n count b → sheet_printed after answer ≡ sheet_of b
prints_the_sheet {before = before} {n = n} {count = count} {version = version} {b = b} w reads made =
    let x = final_sheet w n count version b reads made in
    rw (x.0, x.1) (take-append_seam (sheet_of b) (drop (length (sheet_of b)) before))

-- nothing where the header is refused,
pub refused_prints_nothing : {sheet before after : List ℕ} {answer : Final} {why : Refusal} → WritesFinal sheet before answer after
    → ReadsHeader sheet (Err why) → sheet_printed after answer ≡ []
refused_prints_nothing {why = why} w reads = rw (final_refusal w why reads).0 refl

-- and nothing where a read failed
pub unread_prints_nothing : {memory before after : List ℕ} {answer : Final} → AnswersFinal memory None before answer after → sheet_printed after answer ≡ []
unread_prints_nothing w = rw (w.failed refl).0 refl
