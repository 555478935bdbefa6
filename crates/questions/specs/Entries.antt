-- docs/RULES.md, 'Entries': link stopped or not, with 'The book', and listing, with 'Classes'.
use Rattle.std.specs.Prelude.{◌≡◌, ◌||◌, List, [], ◌∷◌, ◌++◌, ℕ, zero, suc, ◌*◌, Option, Some, None, Result, Ok, length, drop}
use Rattle.table.specs.declared.Refusal.{Refusal}
use Rattle.table.specs.Reply.{Reply, refused, says, alone}
use Rattle.table.specs.Checks.{Check, Given, Passed, ◌when◌, ◌below◌, ◌not_below◌, checked}
use Rattle.fabric.specs.Labels.{size}
use Rattle.actions.specs.Layout.{action_length}
use Rattle.actions.specs.Rows.{rows}
use Rattle.book.specs.declared.Book.{Book}
use Rattle.standing.specs.Picked.{LowestNumber}
use Rattle.book.specs.Standing.{standing, StopsLink, Stopped}
use Rattle.book.specs.Entries.{book_checks}

-- The theorems named here stand in proofs/Entries.antt, unless another file is named. `link_numbered` and `listing_numbered`: no
-- answer has number 0.

-- what an answer to the link test says: 0 where it is clear, otherwise a number, `link_says_exactly`
abbrev pub Link : Type 0
Link = Result (Option ℕ) Refusal

abbrev pub link_value : Option ℕ → List ℕ
link_value None = 0 ∷ []
link_value (Some k) = k ∷ []

abbrev pub link_says : Link → Reply
link_says = says link_value

-- the number that a rule gives, which is 0 for a link that it does not stop: `number_is` (proofs/Testing.antt)
abbrev pub number_or_none : ℕ → Option ℕ
number_or_none zero = None
number_or_none (suc k) = Some (suc k)

-- "Link test (book, stage, switch, code): 16, 4, 12.": `link_order`, `link_lets_pass`
abbrev pub link_checks : Book → ℕ → ℕ → ℕ → List Check
link_checks b i j c = book_checks b ++ (4 when (i not_below b.n || j not_below size b.n)) ∷ (12 when 2 below c) ∷ []

-- "The link test answers clear, or the lowest number of a notice that stops the link.", and for it "every notice counts": `link_says_exactly`; `tests_answers`
-- and `answers_tests` (proofs/Testing.antt) say it by the stopper
pub record Tests (b : Book) (i j c : ℕ) (r : Link) : Type 0 where
  pub refuses : (k : ℕ) → Given k (link_checks b i j c) → link_says r ≡ refused k
  pub stopped : Passed (link_checks b i j c) → (k : ℕ) → LowestNumber (StopsLink b.n (standing b) i j c) k → r ≡ Ok (Some k)
  pub clear : Passed (link_checks b i j c) → (Stopped b.n (standing b) i j c → ⊥) → r ≡ Ok None

-- what an answer to the listing says: `listed_exactly`
abbrev pub Listing : Type 0
Listing = Result ℕ Refusal

abbrev pub listing_says : Listing → Reply
listing_says = says alone

-- "Listing (book, memory): 16, 13.": too short is shorter than "the eleven bytes of its filing"; `listing_order`, `listing_lets_pass`
abbrev pub listing_checks : Book → List ℕ → List Check
listing_checks b memory = book_checks b ++ (13 when length memory below action_length 2 * length (standing b)) ∷ []

-- "the notices that stand, the lowest number first, each as the eleven bytes of its filing, the class at the end. They lie at the front of the memory, and what
-- follows them is left. The answer is their count.": `listed_exactly`, `refused_listing_writes_nothing`. `listed_rising` (book/proofs/Filings.antt) says that
-- they stand by rising number.
pub record Lists (b : Book) (before after : List ℕ) (r : Listing) : Type 0 where
  pub says : listing_says r ≡ checked (listing_checks b before) refused (Reply.accepted (length (standing b) ∷ []))
  pub leaves : after ≡ checked (listing_checks b before) (λ k. before) (rows (action_length 2) (standing b) ++ drop (action_length 2 * length (standing b)) before)
