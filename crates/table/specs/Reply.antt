-- What an entry hands back, in the terms of docs/RULES.md: the values of an accepted call, or a number of the table with the
-- values that belong to it. `says` gives a `Result` this form, by the values of what is accepted; an error of more cases than a refusal has a definition of its own. The theorems named here stand in
-- proofs/Meaning.antt.
use Rattle.std.specs.Prelude.{List, [], ◌∷◌, ℕ, ◌≤◌, Result, Ok, Err}
use Rattle.table.specs.declared.Refusal.{Refusal}
use Rattle.table.specs.Numbers.{number_of}

pub data Reply : Type 0 where
  accepted : List ℕ → Reply
  refused_with : ℕ → List ℕ → Reply

-- a number alone: `refused_exactly`
abbrev pub refused : ℕ → Reply
refused k = Reply.refused_with k []

-- a refusal comes with a number of the table, and the table has no 0: `numbered_exactly`, and `refusal_numbered` for the table's own
abbrev pub Numbered : Reply → Type 0
Numbered (Reply.accepted values) = Unit
Numbered (Reply.refused_with k values) = 1 ≤ k

-- what a call that is accepted or refused says: its values, or the refusal's number (`says_each`)
abbrev pub says : {A : Type 0} → (A → List ℕ) → Result A Refusal → Reply
says values (Ok x) = Reply.accepted (values x)
says values (Err why) = refused (number_of why)

-- a value that is one number: `alone_exactly`
abbrev pub alone : ℕ → List ℕ
alone x = x ∷ []

-- what is answered without a value, and what it says: `answer_says_each`, `answer_numbered`, and no two say the same, `answer_tells`
abbrev pub Answer : Type 0
Answer = Result Unit Refusal

abbrev pub answer_says : Answer → Reply
answer_says = says (λ _. [])
