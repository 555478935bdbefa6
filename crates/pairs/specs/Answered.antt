-- The answers to the first pairs, at the front of lent memory. The theorems named here stand in proofs/Pairs.antt.
use Rattle.std.specs.Prelude.{◌≡◌, List, ℕ, ◌+◌, ◌*◌, ◌≤◌, ◌<◌, length, get_or}
use Rattle.packing.specs.Packed.{Tells}
use Rattle.book.specs.declared.Book.{Book}
use Rattle.routes.specs.Routed.{route_says, Routes}

-- a source and its destination, one after the other: `labels_in_order`
abbrev pub source_of : List ℕ → ℕ → ℕ
source_of pairs k = get_or pairs (2 * k) 0

abbrev pub destination_of : List ℕ → ℕ → ℕ
destination_of pairs k = get_or pairs (2 * k + 1) 0

-- answer k is that of pair k, with the choice that is one for all, as one route packs it (`answer_of_pair`), and the rest stays: `answered_once`
pub record Answered (b : Book) (choice : ℕ) (pairs : List ℕ) (count : ℕ) (before after : List ℕ) : Type 0 where
  pub as_long : length after ≡ length before
  pub answers : (k : ℕ) → k < count → Tells (Routes b (source_of pairs k) (destination_of pairs k) choice) route_says (get_or after k 0)
  pub stays : (k : ℕ) → count ≤ k → get_or after k 0 ≡ get_or before k 0
