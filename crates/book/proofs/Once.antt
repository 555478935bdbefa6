-- No second answer: whatever meets an entry's promise is one and the same, for good and refused input alike.
use mathlib.Core.Path.{◌≡◌, sym, ap₂, ◌∙◌}
use mathlib.Core.List.{List}
use Prim.Native.Nat.{ℕ}
use Rattle.table.proofs.Answers.{answer_tells}
use Rattle.table.specs.Checks.{Check}
use Rattle.notices.specs.declared.Notice.{Notice}
use Rattle.book.specs.declared.Book.{Book}
use Rattle.book.specs.declared.Kept.{Kept}
use Rattle.table.specs.Reply.{Answer}
use Rattle.book.specs.Entries.{HandsBack, Opens, Files, Withdraws}

hands_back_once : (checks : List Check) (given made : Book) (q r : Kept) → HandsBack checks given made q → HandsBack checks given made r → q ≡ r
hands_back_once checks given made q r p s =
    ap₂ (λ (b : Book) (a : Answer). record { book = b; answer = a }) (p.leaves ∙ sym s.leaves) (answer_tells q.answer r.answer (p.says ∙ sym s.says))

pub opens_once : (n : ℕ) (q r : Kept) → Opens n q → Opens n r → q ≡ r
opens_once n q r p s = hands_back_once _ _ _ q r p s

pub files_once : (b : Book) (x : Notice) (q r : Kept) → Files b x q → Files b x r → q ≡ r
files_once b x q r p s = hands_back_once _ _ _ q r p s

pub withdraws_once : (b : Book) (k : ℕ) (q r : Kept) → Withdraws b k q → Withdraws b k r → q ≡ r
withdraws_once b k q r p s = hands_back_once _ _ _ q r p s
