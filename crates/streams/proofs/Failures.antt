-- What a read answers that failed, and one that did not.
use Rattle.std.specs.Prelude.{◌≡◌, ℕ, List, IsSome, Some, None, Ok, Err}
use Rattle.std.specs.Result.{result_err}
use mathlib.Core.Path.{refl}
use Rattle.std.specs.declared.result.Result.{Result}
use Rattle.input.specs.Answers.{Answers}
use Rattle.streams.specs.Reads.{input_at, HoldsRead, CauseTold}

-- "A read that fails part-way does not make a short sheet"
pub failed_at_an_error : {E : Type 0} (bytes : ℕ) (e : E) → Err e ≡ input_at bytes (Err e)
failed_at_an_error bytes e = refl

pub bytes_at_a_count : (E : Type 0) (bytes k : ℕ) → Ok bytes ≡ input_at {E = E} bytes (Ok k)
bytes_at_a_count E bytes k = refl

-- what is promised of the input that was read is promised of all that the reader gives
pub held_is_answered : {A : Type 0} {writes : List ℕ → List ℕ → A → List ℕ → Type 0} {unread : A} {memory all before after : List ℕ} {answer : A} (bytes : ℕ)
    → HoldsRead memory (Some bytes) all → Answers writes unread memory (Some bytes) before answer after → writes all before answer after
held_is_answered {A} {writes} {unread} {memory} {all} bytes holds w = w.whole bytes all refl holds

-- there is a cause, and it is the one that the read gave
pub failed_tells_a_cause : {E : Type 0} (answer : Result ℕ E) (e : E) → CauseTold answer (Err e) → IsSome (result_err answer) × (result_err answer ≡ Some e)
failed_tells_a_cause answer e told = let cause : result_err answer ≡ Some e = told in (rw cause refl, cause)

pub bytes_tell_none : {E : Type 0} (answer : Result ℕ E) (bytes : ℕ) → CauseTold answer (Ok bytes) → result_err answer ≡ None
bytes_tell_none answer bytes told = told
