-- The book that a host hands over as a sheet: the one after all its actions (`After`). A sheet whose header is refused makes none.
use Rattle.sheet.specs.Format.{HeaderRead, headed}
use Rattle.std.specs.Prelude.{◌≡◌, List, [], ℕ, Ok, Err}
use Rattle.table.specs.declared.Refusal.{Refusal}
use Rattle.table.specs.Numbers.{number_of}
use Rattle.book.specs.declared.Book.{Book}
use Rattle.table.specs.Reply.{Answer}
use Rattle.book.specs.Standing.{book_of, Sound}
use Rattle.changes.specs.After.{After}
use Rattle.sheet.specs.Entries.{ReadsHeader}

-- what a sheet hands over, as an opening does: the book after all its actions, sound from its opening on, with 'done'; or the header's refusal,
-- with a book of size 0 and no notices. `handed_once`: no second answer, and no second book.
pub data HandsOver (sheet : List ℕ) (b : Book) : Answer → Type 0 where
  makes : {n count version : ℕ} → ReadsHeader sheet (headed n count version) → After sheet n count b → Sound b → HandsOver sheet b (Ok tt)
  refuses : {why : Refusal} → ReadsHeader sheet (Err why) → b ≡ book_of 0 [] → HandsOver sheet b (Err why)

-- an answer over the book that a sheet makes (`over_book`); "A sheet whose header is refused gives the header's number", and the lent memory is
-- as it was (`over_header`)
abbrev pub Over : (sheet before after : List ℕ) → (Book → ℕ → Type 0) → HeaderRead → ℕ → Type 0
Over sheet before after answers (Ok head) r = (b : Book) × After sheet head.n head.count b × answers b r
Over sheet before after answers (Err why) r = (r ≡ number_of why) × (after ≡ before)

-- of an entry that is lent memory: `over_once` says that there is no second answer and no second memory
pub record OverLent (sheet before after : List ℕ) (answers : Book → ℕ → Type 0) (r : ℕ) : Type 0 where
  pub header : HeaderRead
  pub reads : ReadsHeader sheet header
  pub over : Over sheet before after answers header r

-- of an entry that is lent none
abbrev pub OverSheet : List ℕ → (Book → ℕ → Type 0) → ℕ → Type 0
OverSheet sheet answers r = OverLent sheet [] [] answers r
