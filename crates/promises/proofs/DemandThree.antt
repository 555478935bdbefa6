-- Demand 3 over everything: after any run of filings and withdrawals from an empty book, refused ones among them, every
-- answer from then on, of every entry over a book, equals that of a new book of that size into which only the notices
-- accepted and not withdrawn since were filed, in any order.
use mathlib.Core.Path.{◌≡◌, subst}
use mathlib.Core.List.{List, map, Memᴰ}
use mathlib.Core.Logic.{◌↔◌}
use Prim.Native.Nat.{ℕ}
use Rattle.notices.specs.declared.Notice.{Notice}
use Rattle.book.specs.declared.Book.{Book}
use Rattle.book.specs.declared.Kept.{Kept}
use Rattle.book.specs.Entries.{opened, book_checks, Files, Withdraws}
use Rattle.questions.specs.Entries.{Tests, Lists, Link, Listing}
use Rattle.changes.specs.Runs.{Change, run, AllAccepted, StandsSince}
use Rattle.standing.specs.Rising.{Distinct, Reordered}
use Rattle.standing.proofs.Distinct.{distinct_reordered}
use Rattle.changes.proofs.Since.{same_book}
use Rattle.book.proofs.Once.{files_once, withdraws_once}
use Rattle.questions.proofs.Once.{tests_once, lists_once}
use Rattle.written.specs.Sheets.{Written, Writes}
use Rattle.written.proofs.Once.{writes_once}
use Rattle.walks.specs.Entries.{Ended, Walks}
use Rattle.routes.specs.Routed.{Routes, Found}
use Rattle.walks.proofs.Entries.{walk_once}
use Rattle.routes.proofs.Entries.{route_once}

-- "in whatever order": of a list of the notices accepted and not withdrawn since, none twice, any other order makes that book
-- too. `since_list` says that every run has such a list.
pub in_any_order : (n : ℕ) (changes : List Change) (l m : List Notice) → Distinct l → ((x : Notice) → Memᴰ x l ↔ StandsSince (opened n) changes x) → Reordered l m
    → (run (map Change.file m) (opened n) ≡ run changes (opened n)) × AllAccepted (map Change.file m) (opened n)
in_any_order n changes l m apart these other =
    same_book n changes m (distinct_reordered l m apart other) (λ x. ((λ h. (these x).0 (other.no_other x h)), (λ s. other.has_each x ((these x).1 s))))

module _ (n : ℕ) (changes : List Change) (l : List Notice) (apart : Distinct l)
    (these : (x : Notice) → Memᴰ x l ↔ StandsSince (opened n) changes x) where
  -- the book that the run made, and the new one
  abbrev ran : Book
  ran = run changes (opened n)

  abbrev new : Book
  new = run (map Change.file l) (opened n)

  same : new ≡ ran
  same = (same_book n changes l apart these).0

  pub files_alike : (x : Notice) (q r : Kept) → Files ran x q → Files new x r → q ≡ r
  files_alike x q r p s = files_once ran x q r p (subst (λ (b : Book). Files b x r) same s)

  pub withdraws_alike : (k : ℕ) (q r : Kept) → Withdraws ran k q → Withdraws new k r → q ≡ r
  withdraws_alike k q r p s = withdraws_once ran k q r p (subst (λ (b : Book). Withdraws b k r) same s)

  pub tests_alike : (i j c : ℕ) (q r : Link) → Tests ran i j c q → Tests new i j c r → q ≡ r
  tests_alike i j c q r p s = tests_once ran i j c q r p (subst (λ (b : Book). Tests b i j c r) same s)

  pub lists_alike : (lent left₁ left₂ : List ℕ) (q r : Listing) → Lists ran lent left₁ q → Lists new lent left₂ r → (q ≡ r) × (left₁ ≡ left₂)
  lists_alike lent left₁ left₂ q r p s = lists_once ran lent left₁ left₂ q r p (subst (λ (b : Book). Lists b lent left₂ r) same s)

  pub writes_alike : (lent left₁ left₂ : List ℕ) (q r : Written) → Writes ran lent left₁ q → Writes new lent left₂ r → (q ≡ r) × (left₁ ≡ left₂)
  writes_alike lent left₁ left₂ q r p s = writes_once (book_checks ran) ran lent left₁ left₂ q r p (subst (λ (b : Book). Writes b lent left₂ r) same s)

  pub walks_alike : (s tag : ℕ) (q r : Ended) → Walks ran s tag q → Walks new s tag r → q ≡ r
  walks_alike s tag q r p w = walk_once ran s tag q r p (subst (λ (b : Book). Walks b s tag r) same w)

  -- "Demand 3 is kept under each choice of a route"
  pub routes_alike : (s d choice : ℕ) (q r : Found) → Routes ran s d choice q → Routes new s d choice r → q ≡ r
  routes_alike s d choice q r p w = route_once ran s d choice q r p (subst (λ (b : Book). Routes b s d choice r) same w)
