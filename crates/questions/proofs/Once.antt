-- No second answer: whatever meets an entry's promise is one and the same, for good and refused input alike.
use Rattle.std.specs.Prelude.{Ok, Err, Some, None}
use mathlib.Core.Path.{◌≡◌, sym, ap, ◌∙◌}
use mathlib.Core.List.{List}
use mathlib.Core.Logic.{⊎_elim}
use Prim.Native.Nat.{ℕ}
use Rattle.table.proofs.Checks.{given_or_passed, zero_one}
use Rattle.table.specs.declared.Refusal.{Refusal}
use Rattle.table.specs.Numbers.{number_of}
use Rattle.table.specs.Reply.{refused}
use Rattle.table.proofs.Numbers.{number_tells}
use Rattle.book.specs.declared.Book.{Book}
use Rattle.questions.specs.Entries.{Link, Listing, link_says, listing_says, link_checks, Tests, Lists}
use Rattle.questions.proofs.Testing.{tests_answers}

one_refusal : (v w : Refusal) → refused (number_of v) ≡ refused (number_of w) → v ≡ w
one_refusal v w e = let n : number_of v ≡ number_of w = cc in number_tells v w n

-- answers to the link test that say one number of the table are one answer
pub link_tells : (a b : Link) (k : ℕ) → link_says a ≡ refused k → link_says b ≡ refused k → a ≡ b
link_tells (Ok None) b k e f = absurd (zero_one cc)
link_tells (Ok (Some m)) b k e f = absurd (zero_one cc)
link_tells (Err v) (Ok None) k e f = absurd (zero_one cc)
link_tells (Err v) (Ok (Some m)) k e f = absurd (zero_one cc)
link_tells (Err v) (Err w) k e f = let z : number_of v ≡ number_of w = cc in ap Err (number_tells v w z)

pub listing_tells : (a b : Listing) → listing_says a ≡ listing_says b → a ≡ b
listing_tells (Ok j) (Ok k) e = let q : j ≡ k = cc in ap Ok q
listing_tells (Ok j) (Err w) e = absurd (zero_one cc)
listing_tells (Err v) (Ok k) e = absurd (zero_one cc)
listing_tells (Err v) (Err w) e = ap Err (one_refusal v w e)

pub tests_once : (b : Book) (i j c : ℕ) (q r : Link) → Tests b i j c q → Tests b i j c r → q ≡ r
tests_once b i j c q r p s =
    ⊎_elim
    (λ g. link_tells q r g.0 (p.refuses g.0 g.1) (s.refuses g.0 g.1))
    (λ w. tests_answers b i j c q w p ∙ sym (tests_answers b i j c r w s))
    (given_or_passed (link_checks b i j c))

-- and every byte of the lent memory
pub lists_once : (b : Book) (before after later : List ℕ) (q r : Listing) → Lists b before after q → Lists b before later r → (q ≡ r) × (after ≡ later)
lists_once b before after later q r p s = (listing_tells q r (p.says ∙ sym s.says), p.leaves ∙ sym s.leaves)
