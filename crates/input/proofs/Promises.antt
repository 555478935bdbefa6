-- A run of the input writes the text of what was read, or nothing where a read failed; and there is no second answer.
use Rattle.sheet.specs.Format.{HeaderRead}
use Rattle.std.specs.Prelude.{Ok, Err, Some, None}
use Rattle.std.specs.Result.{result_ok}
use mathlib.Core.Path.{◌≡◌, refl, sym, ap, ◌∙◌}
use mathlib.Core.Logic.{◌↔◌}
use mathlib.Core.List.{List, [], ◌∷◌, ◌++◌}
use Prim.Native.Nat.{ℕ, ◌+◌, ◌≤◌}
use native.Mathlib.Omega.{arith}
use borrow.Author.Tests.{le-ltb}
use lib.ListN.{length, take, drop, length-append}
use lib.Seq.{take-append_seam}
use Rattle.table.specs.Numbers.{number_of}
use Rattle.table.specs.declared.Refusal.{Refusal}
use Rattle.table.specs.Reply.{Reply.accepted, refused}
use Rattle.table.specs.Checks.{Passed.none, Passed.passes}
use Rattle.table.proofs.Checks.{zero_one}
use Rattle.sheet.specs.Entries.{ReadsHeader}
use Rattle.sheet.proofs.Sheets.{header_once}
use Rattle.printed.specs.Runs.{room, ran_says, Prints, Printed, Runs, Ran}
use Rattle.printed.proofs.RunOnce.{prints_once}
use Rattle.input.specs.Rooms.{input_room, text_room}
use Rattle.input.specs.Answers.{Input, Output, WritesText, AnswersText, text_printed}
use Rattle.input.proofs.Answers.{some_input, front_written, nothing_written, answers_once, unread_exactly}
use Rattle.input.proofs.Rooms.{text_fits, front_answers, front_prints}

module _ {sheet before after : List ℕ} {r : Ran} (w : Runs sheet before r after) (enough : text_room ≤ length before) where
  -- with the room of the longest text a run is not refused
  in_room : Printed sheet w.header before r after
  in_room =
      let fits = text_fits w.header w.reads in
      w.runs.prints (passes (le-ltb (length before) (room w.header) (omega arith)) none)

  pub run_writes : {bytes : ℕ} → r ≡ Ok bytes → WritesText sheet before (Some bytes) after
  run_writes {bytes} e =
      let q = in_room in
      let f : accepted (bytes ∷ []) ≡ accepted (length q.0 ∷ []) = sym (ap ran_says e) ∙ q.2 in
      let same : bytes ≡ length q.0 = cc in
      record { header = w.header; text = q.0; reads = w.reads; prints = q.1; tells = ap Some same; leaves = q.3 }

  pub run_has_room : {why : Refusal} → r ≡ Err why → ⊥
  run_has_room {why} e =
      let q = in_room in
      let f : refused (number_of why) ≡ accepted (length q.0 ∷ []) = sym (ap ran_says e) ∙ q.2 in
      zero_one cc

  -- so what is answered is how long the text is
  pub run_answered : {answer : Output} → answer ≡ result_ok r → WritesText sheet before answer after
  run_answered {answer} e = rw e (go r refl)
    where
      go : (x : Ran) → r ≡ x → WritesText sheet before (result_ok x) after
      go (Ok bytes) is = run_writes is
      go (Err why) is = absurd (run_has_room is)

-- what was written of the front of an input was written of all of it,
pub front_text : (input before : List ℕ) (m : ℕ) (answer : Output) (after : List ℕ) → input_room ≤ m → WritesText (take m input) before answer after → WritesText input before answer after
front_text input before m answer after enough w =
    record {
      header = w.header;
      text = w.text;
      reads = front_answers input m w.header enough w.reads;
      prints = front_prints input m w.header w.text enough w.reads w.prints;
      tells = w.tells;
      leaves = w.leaves;
    }

-- so what was written of what was read was written of the input
pub front_text_written : {memory before after : List ℕ} {read : Input} {answer : Output} {bytes : ℕ} → read ≡ Some bytes → input_room ≤ length memory
    → WritesText (take bytes memory) before answer after → AnswersText memory read before answer after
front_text_written = front_written WritesText _ front_text

-- as what a run of it answers says
pub run_of_read_written : {memory before after : List ℕ} {read : Input} {answer : Output} {bytes : ℕ} {r : Ran} → read ≡ Some bytes → input_room ≤ length memory
    → text_room ≤ length before → Runs (take bytes memory) before r after → answer ≡ result_ok r → AnswersText memory read before answer after
run_of_read_written is enough room w tells = front_text_written is enough (run_answered w room tells)

pub no_text_written : {memory before : List ℕ} {read : Input} → read ≡ None → AnswersText memory read before None before
no_text_written = nothing_written WritesText _

-- a sheet is written in one way,
pub text_once : (sheet before : List ℕ) (q r : Output) (x y : List ℕ) → WritesText sheet before q x → WritesText sheet before r y → (q ≡ r) × (x ≡ y)
text_once sheet before q r x y v w =
    let e = header_once sheet v.header w.header v.reads w.reads in
    let t = prints_once sheet w.header v.text w.text (rw e at v.prints) w.prints in (
      v.tells ∙ ap (λ (s : List ℕ). Some (length s)) t ∙ sym w.tells,
      v.leaves ∙ ap (λ (s : List ℕ). s ++ drop (length s) before) t ∙ sym w.leaves,
    )

-- and what was read in one way alone
pub text_answers_once : (memory : List ℕ) (read : Input) (before : List ℕ) (q r : Output) (x y : List ℕ)
    → AnswersText memory read before q x → AnswersText memory read before r y → (q ≡ r) × (x ≡ y)
text_answers_once = answers_once WritesText _ text_once

-- nothing is written exactly where a read failed
pub text_unread_exactly : {memory before after : List ℕ} (read : Input) {answer : Output} → AnswersText memory read before answer after → (answer ≡ None) ↔ (read ≡ None)
text_unread_exactly = unread_exactly WritesText _ none_unread
  where
    none_unread : (sheet before after : List ℕ) → WritesText sheet before None after → ⊥
    none_unread sheet before after w = let e = w.tells in zero_one cc

-- and the text lies within the lines
pub text_within : {memory before after : List ℕ} {read : Input} {answer : Output} {bytes : ℕ} → AnswersText memory read before answer after → answer ≡ Some bytes → bytes ≤ length after
text_within {memory} {before} {after} {read} {answer} {bytes} w e = go read refl
  where
    go : (r : Input) → read ≡ r → bytes ≤ length after
    go (Some count) is =
        let v = w.whole count (take count memory) is (some_input memory count) in
        let f : Some bytes ≡ Some (length v.text) = sym e ∙ v.tells in
        let same : bytes ≡ length v.text = cc in
        let l : length after ≡ length v.text + length (drop (length v.text) before) = ap length v.leaves ∙ length-append v.text (drop (length v.text) before) in
        omega arith
    go None is =
        let f : Some bytes ≡ None = sym e ∙ (w.failed is).0 in
        absurd (zero_one cc)

-- what goes to standard output: the text of the sheet and nothing else,
pub prints_the_text : {sheet before after : List ℕ} {answer : Output} {header : HeaderRead} {text : List ℕ} → WritesText sheet before answer after
    → ReadsHeader sheet header → Prints sheet header text → text_printed after answer ≡ text
prints_the_text {sheet} {before} {after} {answer} {header} {text} w reads prints =
    let e = header_once sheet w.header header w.reads reads in
    let t = prints_once sheet header w.text text (rw e at w.prints) prints in
    rw (w.tells, w.leaves) (take-append_seam w.text (drop (length w.text) before)) ∙ t

-- and nothing where a read failed
pub unread_prints_nothing : {memory before after : List ℕ} {answer : Output} → AnswersText memory None before answer after → text_printed after answer ≡ []
unread_prints_nothing w = rw (w.failed refl).0 refl
