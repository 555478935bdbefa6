-- What reading standard input gives once a read brings no more bytes.
use Rattle.std.specs.Prelude.{◌≡◌, ℕ, List, Some, None, Ok, Err}
use Rattle.std.specs.Result.{result_err}
use Rattle.std.specs.declared.result.Result.{Result}
use Rattle.input.specs.Answers.{Input, Holds}

-- so many bytes came before, and the read answered so: where it failed, what came before is not a short sheet, and its cause is handed on:
-- `failed_at_an_error`, `bytes_at_a_count` (proofs/Failures.antt)
abbrev pub input_at : {E : Type 0} → ℕ → Result ℕ E → Result ℕ E
input_at bytes (Ok k) = Ok bytes
input_at bytes (Err e) = Err e

-- what was read is all that the reader gives, or as much of it as the memory holds: `held_is_answered` says what a program then answers
abbrev pub HoldsRead : (memory : List ℕ) → Input → (all : List ℕ) → Type 0
HoldsRead memory (Some bytes) all = Holds memory bytes all
HoldsRead memory None all = Unit

-- where reading failed the cause that is told is the one that the last read gave, and otherwise that read gave none: `failed_tells_a_cause`,
-- `bytes_tell_none`
abbrev pub CauseTold : {E : Type 0} → (answer : Result ℕ E) → (result : Result ℕ E) → Type 0
CauseTold answer (Ok bytes) = result_err answer ≡ None
CauseTold answer (Err e) = result_err answer ≡ Some e
