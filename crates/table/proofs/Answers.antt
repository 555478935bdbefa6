-- What an answer without a value says.
use Rattle.std.specs.Prelude.{Ok, Err}
use mathlib.Core.Path.{◌≡◌, refl, ap}
use mathlib.Core.List.{List, []}
use Prim.Native.Nat.{ℕ}
use lib.ListN.{length, get_or}
use Rattle.table.specs.declared.Refusal.{Refusal}
use Rattle.table.specs.Numbers.{number_of}
use Rattle.table.specs.Reply.{Reply, Numbered, says, alone, Answer, answer_says}
use Rattle.table.proofs.Numbers.{number_tells, above_zero}
use Rattle.table.proofs.Checks.{zero_one}

-- a call says its values where it is accepted, and where it is refused the number alone; a value that is one number is said as that
pub says_each : {A : Type 0} (values : A → List ℕ)
    → ((x : A) → says values (Ok x) ≡ Reply.accepted (values x)) × ((why : Refusal) → says values (Err why) ≡ Reply.refused_with (number_of why) [])
says_each values = ((λ x. refl), (λ why. refl))

pub alone_exactly : (x : ℕ) → (length (alone x) ≡ 1) × (get_or (alone x) 0 0 ≡ x)
alone_exactly x = (refl, refl)

-- done is an accepted call without values, and a refusal is its number alone
pub answer_says_each : (answer_says (Ok tt) ≡ Reply.accepted []) × ((why : Refusal) → answer_says (Err why) ≡ Reply.refused_with (number_of why) [])
answer_says_each = (refl, λ why. refl)

-- no answer has number 0
pub answer_numbered : (a : Answer) → Numbered (answer_says a)
answer_numbered (Ok _) = tt
answer_numbered (Err why) = above_zero why

-- no two answers say the same
pub answer_tells : (a b : Answer) → answer_says a ≡ answer_says b → a ≡ b
answer_tells (Ok _) (Ok _) e = refl
answer_tells (Ok _) (Err w) e = absurd (zero_one cc)
answer_tells (Err v) (Ok _) e = absurd (zero_one cc)
answer_tells (Err v) (Err w) e = let z : number_of v ≡ number_of w = cc in ap Err (number_tells v w z)
