-- The life of a book that a host holds as a sheet: it is opened, and each change is asked for over the sheet that the last accepted one handed
-- back. The theorems named here stand in proofs/Lives.antt, unless another file is named.
use Rattle.std.specs.Prelude.{cond, List, [], ◌∷◌, ◌++◌, ℕ, ◌≤◌, ◌/◌, ◌%◌, eqb, length, take}
use Rattle.changes.specs.Runs.{Change}
use Rattle.packing.specs.Packed.{byte, Tells}
use Rattle.handed.specs.Books.{OverLent}
use Rattle.written.specs.Sheets.{most_written, written_says}
use Rattle.written.specs.Changes.{OpensSheet, ChangesSheet}

-- What a change answers over the sheet that a host holds, with a memory before the call and after it: the promise of tabashfar_file_links,
-- tabashfar_file_switch, tabashfar_file_pattern and tabashfar_withdraw. `asked_exactly` says that it is accepted exactly where the entry accepts it,
-- `asked_once` that there is no second answer, `refused_header_holds` what it is where the header is refused (proofs/Once.antt).
abbrev pub Asks : List ℕ → Change → List ℕ → List ℕ → ℕ → Type 0
Asks sheet a before after r = OverLent sheet before after (λ b. Tells (ChangesSheet b a before after) written_says) r

-- what the host holds then: where the low byte is 0 the first bytes of the memory, so many as the value says; otherwise what it held:
-- `told_passed`, `told_given` (proofs/Told.antt)
abbrev pub held_then : List ℕ → List ℕ → ℕ → List ℕ
held_then sheet after r = cond (eqb (r % byte) 0) (take (r / byte) after) sheet

-- The life of a book: what a host holds after it opened a book of n stages and asked for changes, refused ones among them, with room for the sheet of
-- every book in each memory. `held_is_written`: it is the sheet of the book after that run; `every_run_is_held` (proofs/Witness.antt): and every run has such a life.
-- Where the opening was refused it holds nothing: `nothing_held` (proofs/Once.antt).
pub data Life (n : ℕ) : List Change → List ℕ → Type 0 where
  opens : {before after : List ℕ} {r : ℕ} → most_written ≤ length before → Tells (OpensSheet n before after) written_says r → Life n [] (held_then [] after r)
  asks : {changes : List Change} {sheet before after : List ℕ} (a : Change) {r : ℕ} → Life n changes sheet → most_written ≤ length before → Asks sheet a before after r
      → Life n (changes ++ a ∷ []) (held_then sheet after r)
