-- docs/RULES.md, 'Entries': the entries that hand a book back, their order of checks, and what each hands back.
use Rattle.std.specs.Prelude.{◌≡◌, not, List, [], ◌∷◌, ◌++◌, ℕ, eqb, length}
use Rattle.table.specs.Reply.{Reply, refused, answer_says}
use Rattle.table.specs.Checks.{Check, ◌when◌, ◌not_below◌, checked}
use Rattle.fabric.specs.Labels.{outside_sizes}
use Rattle.notices.specs.declared.Notice.{Notice}
use Rattle.book.specs.declared.Book.{Book}
use Rattle.book.specs.declared.Kept.{Kept}
use Rattle.notices.specs.Notices.{outside_fabric, bad_field, too_wide}
use Rattle.book.specs.Standing.{standing, book_of, unsound}
use Rattle.standing.specs.Rising.{stands, insert, without}

-- The theorems named here stand in proofs/Entries.antt.

-- "Both changes give the book back beside the answer." The checks decide both: where one refuses, the book is one that is known
-- beforehand ("a refused change gives the book back unchanged"), otherwise the book that the change makes: `refused_hands_back`,
-- `done_hands_back`; `refused_filing_keeps` and `refused_withdrawing_keeps` are the sentence of docs/RULES.md.
pub record HandsBack (checks : List Check) (given made : Book) (r : Kept) : Type 0 where
  pub says : answer_says r.answer ≡ checked checks refused (Reply.accepted [])
  pub leaves : r.book ≡ checked checks (λ k. given) made

-- "Open (n): 1. It then hands back a book of size 0 without notices, to which every entry over a book says 16. Otherwise it hands
-- back an empty book of size n.": `open_order`, `open_lets_pass`; `refused_opening_is_empty`, `refused_opening_sixteen`,
-- `opening_is_empty`
abbrev pub open_checks : ℕ → List Check
open_checks n = (1 when outside_sizes n) ∷ []

abbrev pub opened : ℕ → Book
opened n = checked (open_checks n) (λ k. book_of 0 []) (book_of n [])

abbrev pub Opens : ℕ → Kept → Type 0
Opens n r = HandsBack (open_checks n) (book_of 0 []) (book_of n []) r

-- what every entry over a book judges first, 16: `book_order`, `book_lets_pass`
abbrev pub book_checks : Book → List Check
book_checks b = (16 when unsound b) ∷ []

-- "File (book, notice): 16, 3, 4, 5, 6, 7, 8.": `file_order`, `file_lets_pass`, `seven_though_full`, `eight_when_full`
abbrev pub file_checks : Book → Notice → List Check
file_checks b x =
    book_checks b
    ++ (3 when eqb x.number 0)
    ∷ (4 when outside_fabric b.n x)
    ∷ (5 when bad_field b.n x)
    ∷ (6 when too_wide x)
    ∷ (7 when stands x.number (standing b))
    ∷ (8 when length (standing b) not_below 48)
    ∷ []

-- "Withdraw (book, number): 16, 3, 9.": `withdraw_order`, `withdraw_lets_pass`
abbrev pub withdraw_checks : Book → ℕ → List Check
withdraw_checks b k = book_checks b ++ (3 when eqb k 0) ∷ (9 when not (stands k (standing b))) ∷ []

-- The book that an accepted filing makes, and an accepted withdrawing: `filed_standing` and `withdrawn_standing` say what stands in it.
abbrev pub filed : Book → Notice → Book
filed b x = book_of b.n (insert x (standing b))

abbrev pub withdrawn : Book → ℕ → Book
withdrawn b k = book_of b.n (without k (standing b))

abbrev pub Files : Book → Notice → Kept → Type 0
Files b x r = HandsBack (file_checks b x) b (filed b x) r

abbrev pub Withdraws : Book → ℕ → Kept → Type 0
Withdraws b k r = HandsBack (withdraw_checks b k) b (withdrawn b k) r
