-- docs/RULES.md, 'Entries' and 'Walks': walk.
use Rattle.std.specs.Prelude.{◌≡◌, List, [], ◌∷◌, ◌++◌, ℕ, ◌<◌, Result, Ok, Err, get_or}
use Rattle.walks.specs.declared.NotClear.{NotClear}
use Rattle.table.specs.Numbers.{number_of}
use Rattle.table.specs.Reply.{Reply, refused}
use Rattle.table.specs.Checks.{Check, Given, Passed, ◌when◌, ◌not_below◌}
use Rattle.fabric.specs.Labels.{size}
use Rattle.fabric.specs.Walks.{walked, switch_at}
use Rattle.scheme.specs.Tags.{tags, destination, steps_of}
use Rattle.paths.specs.Clear.{Rule, Clear}
use Rattle.book.specs.declared.Book.{Book}
use Rattle.book.specs.Standing.{stops_of}
use Rattle.book.specs.Entries.{book_checks}

-- The number and values of each answer: 11 comes with a stage and a notice's number. `clear_exactly`, `eleven_exactly` and `seventeen_exactly` (proofs/Entries.antt)
-- say when each is given, past the checks; `ended_numbered` that no number is 0.
abbrev pub Ended : Type 0
Ended = Result Unit NotClear

abbrev pub walk_says : Ended → Reply
walk_says (Ok _) = Reply.accepted []
walk_says (Err (NotClear.Stopped i k)) = Reply.refused_with 11 (i ∷ k ∷ [])
walk_says (Err NotClear.Astray) = refused 17
walk_says (Err (NotClear.Refused r)) = refused (number_of r)

-- "Walk (book, source, tag): 16, 10, 12", and then. `walk_order` reads the numbers off, `walk_lets_pass` says what passes.
abbrev pub walk_checks : Book → ℕ → ℕ → List Check
walk_checks b s tag = book_checks b ++ (10 when s not_below size b.n) ∷ (12 when tag not_below tags b.n) ∷ []

-- "the first stage at which it meets a stopped link": `first_stopped_least` and `least_stopped_first` say that it is the least such stage; "A walk
-- hands on the number that the link test gives": it is the number of that very link, `passes_on`
pub record FirstStopped (n : ℕ) (stops : Rule) (s : ℕ) (cs : List ℕ) (i k : ℕ) : Type 0 where
  pub stage : i < n
  pub number : stops i (switch_at n s cs i) (get_or cs i 0) ≡ k
  pub stopped : k ≡ 0 → ⊥
  pub before : (m : ℕ) → m < i → stops m (switch_at n s cs m) (get_or cs m 0) ≡ 0

-- "11, 17. Past these the walk is clear": the first stage whose link is stopped; "a walk that ends elsewhere than its tag says"
abbrev pub Walked : ℕ → Rule → ℕ → ℕ → Ended → Type 0
Walked n stops s tag (Err (NotClear.Stopped i k)) = FirstStopped n stops s (steps_of n s tag) i k
Walked n stops s tag (Err NotClear.Astray) = Clear n stops s (steps_of n s tag) × (walked n 0 s (steps_of n s tag) ≡ destination n tag → ⊥)
Walked n stops s tag (Ok _) = Clear n stops s (steps_of n s tag) × (walked n 0 s (steps_of n s tag) ≡ destination n tag)
Walked n stops s tag (Err (NotClear.Refused r)) = ⊥

-- `walk_once`: no second answer
pub record Walks (b : Book) (s tag : ℕ) (answer : Ended) : Type 0 where
  pub refuses : (k : ℕ) → Given k (walk_checks b s tag) → walk_says answer ≡ refused k
  pub walks : Passed (walk_checks b s tag) → Walked b.n (stops_of b) s tag answer
