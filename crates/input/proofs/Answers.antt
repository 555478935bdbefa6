-- What holds of every program that answers by what it read: it answers as all of the input does, in one way, and where a read failed it says so.
use Rattle.std.specs.Prelude.{Some, None}
use mathlib.Core.Path.{◌≡◌, refl, sym, ap, ◌∙◌}
use mathlib.Core.Logic.{◌↔◌}
use mathlib.Core.List.{List, ◌++◌}
use Prim.Native.Nat.{ℕ, ◌≤◌}
use native.Mathlib.Decide.{dec_le}
use native.Mathlib.Omega.{arith}
use lib.ListN.{length, take, length-take}
use lib.Seq.{take_all, take-length, length-take-le, take-append_seam}
use Rattle.table.proofs.Checks.{zero_one}
use Rattle.input.specs.Rooms.{input_room}
use Rattle.input.specs.Answers.{Input, Within, Holds, Answers}

-- an input that is put at the front of the memory, as much of it as there is room for, is held there
pub read_is_held : (input rest memory : List ℕ) → memory ≡ take (length memory) input ++ rest → Holds memory (length (take (length memory) input)) input
read_is_held input rest memory e = ap (take (length front)) e ∙ take-append_seam front rest
  where
    front : List ℕ
    front = take (length memory) input

-- what was read is the front of an input, so the promise says what is written of it
pub some_input : (memory : List ℕ) (bytes : ℕ) → Holds memory bytes (take bytes memory)
some_input memory bytes = sym (go (dec_le bytes (length memory)))
  where
    go : Dec (bytes ≤ length memory) → take (length memory) (take bytes memory) ≡ take bytes memory
    go (yes few) = take_all (length memory) (take bytes memory) (let e = length-take-le bytes memory few in omega arith)
    go (no many) = rw (take_all bytes memory (omega arith)) (take-length memory)

module _ {A : Type 0} (writes : List ℕ → List ℕ → A → List ℕ → Type 0) (unread : A) where
  -- where the front of an input is written as all of it is, what was written of what was read was written of the input
  pub front_written :
      ((input before : List ℕ) (m : ℕ) (answer : A) (after : List ℕ) → input_room ≤ m → writes (take m input) before answer after → writes input before answer after)
      → {memory before after : List ℕ} {read : Input} {answer : A} {bytes : ℕ} → read ≡ Some bytes → input_room ≤ length memory
      → writes (take bytes memory) before answer after → Answers writes unread memory read before answer after
  front_written front {memory} {before} {after} {read} {answer} {bytes} e enough w =
      record {
        whole = λ count input f holds.
            let g : Some bytes ≡ Some count = sym e ∙ f in
            let same : bytes ≡ count = cc in
            front input before (length memory) answer after enough (rw (ap (λ (k : ℕ). take k memory) same ∙ holds) at w);
        failed = λ f. let g : Some bytes ≡ None = sym e ∙ f in absurd (zero_one cc);
      }

  pub nothing_written : {memory before : List ℕ} {read : Input} → read ≡ None → Answers writes unread memory read before unread before
  nothing_written {memory} {before} {read} e =
      record {
        whole = λ count input f holds. let g : None ≡ Some count = sym e ∙ f in absurd (zero_one cc);
        failed = λ f. (refl, refl);
      }

  -- where a sheet is written in one way, so is what was read
  pub answers_once : ((sheet before : List ℕ) (q r : A) (x y : List ℕ) → writes sheet before q x → writes sheet before r y → (q ≡ r) × (x ≡ y))
      → (memory : List ℕ) (read : Input) (before : List ℕ) (q r : A) (x y : List ℕ)
      → Answers writes unread memory read before q x → Answers writes unread memory read before r y → (q ≡ r) × (x ≡ y)
  answers_once once memory (Some bytes) before q r x y v w =
      let input = take bytes memory in
      let holds = some_input memory bytes in
      once input before q r x y (v.whole bytes input refl holds) (w.whole bytes input refl holds)
  answers_once once memory None before q r x y v w =
      let a = v.failed refl in
      let b = w.failed refl in
      (a.0 ∙ sym b.0, a.1 ∙ sym b.1)

  -- where no sheet is answered so, that is the answer exactly where a read failed
  pub unread_exactly : ((sheet before after : List ℕ) → writes sheet before unread after → ⊥)
      → {memory before after : List ℕ} (read : Input) {answer : A} → Answers writes unread memory read before answer after → (answer ≡ unread) ↔ (read ≡ None)
  unread_exactly none {memory} {before} {after} (Some bytes) w =
      let input = take bytes memory in
      let v = w.whole bytes input refl (some_input memory bytes) in
      ((λ e. absurd (none input before after (rw e at v))), (λ e. absurd (zero_one cc)))
  unread_exactly none None w = ((λ e. refl), (λ e. (w.failed refl).0))

-- so many bytes are there to be taken from the front of the memory
pub within_exactly : (memory : List ℕ) (bytes : ℕ) → Within (length memory) (Some bytes) ↔ (length (take bytes memory) ≡ bytes)
within_exactly memory bytes = (length-take-le bytes memory, λ e. let l = length-take bytes memory in omega arith)
