-- How an entry's answer crosses the border to C: one number. Its low byte is the table's number, 0 where the call was accepted; the bits
-- from 8 on are the value that comes with it.
use Rattle.std.specs.Prelude.{◌≡◌, List, [], ◌∷◌, ℕ, ◌+◌, ◌*◌}
use Rattle.table.specs.Reply.{Reply}

-- what fits a byte: the table's number fills one, and so does each value but the last (`first_value_lowest`, `refused_unpacks`)
abbrev pub byte : ℕ
byte = 256

-- the values as one number, a byte each but the last, the first lowest: `one_value`, `first_value_lowest`
abbrev pub value_of : List ℕ → ℕ
value_of [] = 0
value_of (v ∷ []) = v
value_of (v ∷ w ∷ vs) = v + byte * value_of (w ∷ vs)

-- `accepted_unpacks` and `refused_unpacks` say what a host reads off it
abbrev pub packed : Reply → ℕ
packed (Reply.accepted []) = 0
packed (Reply.accepted (v ∷ vs)) = byte * value_of (v ∷ vs)
packed (Reply.refused_with k []) = k
packed (Reply.refused_with k (v ∷ vs)) = k + byte * value_of (v ∷ vs)

-- the number is that of an answer which the entry promises: of every such answer (`tells_all`), where there is one (`tells_one`) and no second
abbrev pub Tells : {A : Type 0} → (A → Type 0) → (A → Reply) → ℕ → Type 0
Tells {A} promise says r = (a : A) × promise a × (r ≡ packed (says a))
