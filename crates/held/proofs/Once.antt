-- A change that is asked for over a sheet has no second answer and leaves no second memory, over every sheet, one whose header is refused too; and a
-- host whose opening was refused holds nothing, whatever it asks for then.
use Rattle.std.specs.Prelude.{Err}
use mathlib.Core.Path.{◌≡◌, refl, sym, ap, subst, ◌∙◌}
use mathlib.Core.Bool.{true}
use mathlib.Core.List.{List, []}
use Prim.Native.Nat.{ℕ, ◌%◌}
use native.Mathlib.Omega.{arith}
use borrow.Author.Tests.{ne_eqb}
use Rattle.table.specs.declared.Refusal.{Refusal}
use Rattle.table.specs.Numbers.{number_of}
use Rattle.table.specs.Reply.{refused}
use Rattle.table.specs.Checks.{Check, Given.here}
use Rattle.fabric.specs.Labels.{outside_sizes}
use Rattle.packing.specs.Packed.{packed, Tells}
use Rattle.packing.proofs.Unpacking.{refusal_shows}
use Rattle.sheet.specs.Entries.{ReadsHeader}
use Rattle.sheet.proofs.Promises.{header_refuses}
use Rattle.book.specs.declared.Book.{Book}
use Rattle.book.specs.Standing.{book_of}
use Rattle.book.specs.Entries.{book_checks, open_checks}
use Rattle.changes.specs.Runs.{Change, change_checks, changed}
use Rattle.handed.specs.Books.{OverLent}
use Rattle.handed.proofs.Once.{over_once, over_header}
use Rattle.written.specs.Sheets.{written_says, WritesSheet, Writes, Written}
use Rattle.written.proofs.Once.{writes_once}
use Rattle.held.specs.Lives.{Asks, held_then, Life, Life.opens, Life.asks}
use Rattle.held.proofs.Told.{told_given}

-- open, and whatever else makes a book and writes its sheet
pub sheet_told_once : (checks : List Check) (made : Book) (before after later : List ℕ) (q r : ℕ)
    → Tells (WritesSheet checks made before after) written_says q → Tells (WritesSheet checks made before later) written_says r → (q ≡ r) × (after ≡ later)
sheet_told_once checks made before after later q r x y =
    let e = writes_once checks made before after later x.0 y.0 x.1 y.1 in
    (x.2 ∙ ap (λ (w : Written). packed (written_says w)) e.0 ∙ sym y.2, e.1)

pub asked_once : (sheet : List ℕ) (a : Change) (before after later : List ℕ) (q r : ℕ) → Asks sheet a before after q → Asks sheet a before later r → (q ≡ r) × (after ≡ later)
asked_once sheet a before after later q r v w =
    over_once sheet before after later _ _ q r (λ b y z. sheet_told_once (change_checks a b) (changed a b) before after later q r y z) v w

-- write, over the book of a sheet
pub write_told_once : (sheet before after later : List ℕ) (q r : ℕ) → OverLent sheet before after (λ b. Tells (Writes b before after) written_says) q
    → OverLent sheet before later (λ b. Tells (Writes b before later) written_says) r → (q ≡ r) × (after ≡ later)
write_told_once sheet before after later q r v w = over_once sheet before after later _ _ q r (λ b y z. sheet_told_once (book_checks b) b before after later q r y z) v w

-- over a sheet whose header is refused the header's number is told, nothing is written, and the host holds what it held
pub refused_header_holds : (sheet : List ℕ) (a : Change) (before after : List ℕ) (r : ℕ) (why : Refusal) → ReadsHeader sheet (Err why) → Asks sheet a before after r
    → (r ≡ number_of why) × (after ≡ before) × (held_then sheet after r ≡ sheet)
refused_header_holds sheet a before after r why reads o =
    let h = over_header sheet before after _ r o why reads in
    let s = (refusal_shows why).1 in
    let e : r % 256 ≡ packed (refused (number_of why)) % 256 = ap (λ (k : ℕ). k % 256) h.0 in
    let low : r % 256 ≡ 0 → ⊥ = λ z. omega arith in
    (h.0, h.1, rw (ne_eqb (r % 256) 0 low) refl)

no_sheet : ReadsHeader [] (Err Refusal.Mark)
no_sheet = header_refuses (here refl refl)

pub nothing_held : (n : ℕ) → outside_sizes n ≡ true → (changes : List Change) (sheet : List ℕ) → Life n changes sheet → sheet ≡ []
nothing_held n bad changes sheet (opens {before = before} {after = left} {r = r} enough t) =
    (told_given (open_checks n) (book_of n []) [] before left r t 1 (here bad refl)).1
nothing_held n bad changes sheet (asks {changes = earlier} {sheet = held} {before = before} {after = left} a {r = r} h enough asked) =
    let e = nothing_held n bad earlier held h in
    ap (λ (l : List ℕ). held_then l left r) e ∙ (refused_header_holds [] a before left r Refusal.Mark no_sheet (subst (λ (l : List ℕ). Asks l a before left r) e asked)).2
