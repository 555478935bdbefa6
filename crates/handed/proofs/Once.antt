-- A sheet makes one book, and an answer over it is that of this book: no second answer, and no second memory.
use Rattle.sheet.specs.Format.{HeaderRead, headed}
use Rattle.std.specs.Prelude.{Ok, Err}
use mathlib.Core.Path.{◌≡◌, refl, sym, ap, ◌∙◌}
use mathlib.Core.List.{List, []}
use Prim.Native.Nat.{ℕ}
use Rattle.table.specs.declared.Refusal.{Refusal}
use Rattle.table.specs.Numbers.{number_of}
use Rattle.table.proofs.Checks.{zero_one}
use Rattle.book.specs.declared.Book.{Book}
use Rattle.table.specs.Reply.{Answer}
use Rattle.changes.specs.After.{After}
use Rattle.changes.proofs.After.{after_once}
use Rattle.sheet.specs.Entries.{ReadsHeader}
use Rattle.sheet.proofs.Sheets.{header_once}
use Rattle.handed.specs.Books.{HandsOver, HandsOver.makes, HandsOver.refuses, Over, OverLent, OverSheet}

-- with 'done' comes the book after all the actions that the header counts
pub handed_makes : (sheet : List ℕ) (b : Book) (n count version : ℕ) → HandsOver sheet b (Ok tt) → ReadsHeader sheet (headed n count version) → After sheet n count b
handed_makes sheet b n count version (makes {n = m} {count = k} {version = v} reads after sound) again =
    let e = header_once sheet (headed m k v) (headed n count version) reads again in
    let size : m ≡ n = cc in
    let number : k ≡ count = cc in
    let made : After sheet m k b = after in
    rw (size, number) at made

-- a sheet hands over one book with one answer
pub handed_once : (sheet : List ℕ) (b c : Book) (p q : Answer) → HandsOver sheet b p → HandsOver sheet c q → (b ≡ c) × (p ≡ q)
handed_once sheet b c p q (makes reads after sound) (makes {n = m} {count = j} {version = v} again later sounds) =
    (after_once sheet m j b c (handed_makes sheet b m j v (makes reads after sound) again) later, refl)
handed_once sheet b c p q (makes {n = n} {count = k} {version = v} reads after sound) (refuses {why = why} again size) =
    let e = header_once sheet (headed n k v) (Err why) reads again in
    absurd (zero_one cc)
handed_once sheet b c p q (refuses {why = why} reads size) (makes {n = n} {count = k} {version = v} again later sounds) =
    let e = header_once sheet (Err why) (headed n k v) reads again in
    absurd (zero_one cc)
handed_once sheet b c p q (refuses {why = why} reads size) (refuses {why = wherefore} again sizes) =
    let e = header_once sheet (Err why) (Err wherefore) reads again in
    let same : why ≡ wherefore = cc in
    (size ∙ sym sizes, ap Err same)

module _ (sheet before after : List ℕ) (answers : Book → ℕ → Type 0) (r : ℕ) (o : OverLent sheet before after answers r) where
  -- the answer over the book that the sheet makes
  pub over_book : (n count version : ℕ) (b : Book) → ReadsHeader sheet (headed n count version) → After sheet n count b → answers b r
  over_book n count version b reads made =
      let x : Over sheet before after answers (headed n count version) r = rw (header_once sheet o.header (headed n count version) o.reads reads) at o.over in
      rw (after_once sheet n count x.0 b x.1 made) at x.2

  -- "A sheet whose header is refused gives the header's number", and the memory is as it was
  pub over_header : (why : Refusal) → ReadsHeader sheet (Err why) → (r ≡ number_of why) × (after ≡ before)
  over_header why reads = rw (header_once sheet o.header (Err why) o.reads reads) at o.over

-- no second answer and no second memory, where there is none over a book
pub over_once : (sheet before after later : List ℕ) (left right : Book → ℕ → Type 0) (q r : ℕ)
    → ((b : Book) → left b q → right b r → (q ≡ r) × (after ≡ later))
    → OverLent sheet before after left q → OverLent sheet before later right r → (q ≡ r) × (after ≡ later)
over_once sheet before after later left right q r once v w = go w.header w.reads w.over
  where
    go : (h : HeaderRead) → ReadsHeader sheet h → Over sheet before later right h r → (q ≡ r) × (after ≡ later)
    go (Ok head) reads y = let n = head.n in let count = head.count in let version = head.version in once y.0 (over_book sheet before after left q v n count version y.0 reads y.1) y.2
    go (Err why) reads y =
        let x = over_header sheet before after left q v why reads in
        (x.0 ∙ sym y.0, x.1 ∙ sym y.1)

-- and of an entry that is lent no memory
pub over_sheet_once : (sheet : List ℕ) (answers : Book → ℕ → Type 0) → ((b : Book) (q r : ℕ) → answers b q → answers b r → q ≡ r)
    → (q r : ℕ) → OverSheet sheet answers q → OverSheet sheet answers r → q ≡ r
over_sheet_once sheet answers once q r v w = (over_once sheet [] [] [] answers answers q r (λ b x y. (once b q r x y, refl)) v w).0
