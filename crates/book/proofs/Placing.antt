-- The book with a notice more, or one fewer, in its places is the book of `insert`, or of `without`.
use mathlib.Core.Path.{◌≡◌, ap₂}
use mathlib.Core.Bool.{true}
use mathlib.Core.List.{List}
use Prim.Native.Nat.{ℕ, suc, ◌+◌, ◌-◌, ◌≤◌}
use native.Mathlib.Omega.{arith}
use lib.ListN.{length}
use Rattle.notices.specs.declared.Notice.{Notice}
use Rattle.notices.specs.Notices.{unfit}
use Rattle.standing.specs.Rising.{in_places, stands, insert, without}
use Rattle.standing.proofs.Members.{insert_length}
use Rattle.places.proofs.Placing.{without_shorter}
use Rattle.book.specs.declared.Book.{Book}
use Rattle.book.specs.Standing.{standing, book_of, Sound}
use Rattle.book.proofs.Filings.{length_standing}

-- a book from its parts
abbrev pub made : ℕ → ℕ → List Notice → Book
made n count notices = record { n = n; count = count; notices = notices }

module _ (b : Book) (sound : Sound b) (full : length b.notices ≡ 48) where
  pub book_inserts : (x : Notice) {notices : List Notice} → notices ≡ in_places (insert x (standing b)) → made b.n (b.count + 1) notices ≡ book_of b.n (insert x (standing b))
  book_inserts x e =
      let l = length_standing b sound full in
      let c : length (insert x (standing b)) ≡ suc (length (standing b)) = insert_length x (standing b) in
      ap₂ (made b.n) {x = b.count + 1} {y = length (insert x (standing b))} (omega arith) e

  -- a book in which a number stands is not empty
  pub some_stand : (k : ℕ) → stands k (standing b) ≡ true → 1 ≤ b.count
  some_stand k h =
      let l = length_standing b sound full in
      let c : suc (length (without k (standing b))) ≡ length (standing b) = without_shorter k (unfit b.n) (standing b) sound.filed h in
      omega arith

  pub book_removes : (k : ℕ) {notices : List Notice} → stands k (standing b) ≡ true → notices ≡ in_places (without k (standing b))
      → made b.n (b.count - 1) notices ≡ book_of b.n (without k (standing b))
  book_removes k h e =
      let l = length_standing b sound full in
      let c : suc (length (without k (standing b))) ≡ length (standing b) = without_shorter k (unfit b.n) (standing b) sound.filed h in
      ap₂ (made b.n) {x = b.count - 1} {y = length (without k (standing b))} (omega arith) e
