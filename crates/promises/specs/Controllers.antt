-- docs/RULES.md, 'How much a promise says' and 'Errors seen': the controllers that have to be excluded, each said of any controller at
-- all and under the demand that excludes it. Worthless.antt proves that none of them meets that demand.
use Rattle.routes.specs.declared.NoRoute.{NoRoute}
use Rattle.std.specs.Prelude.{◌≡◌, true, false, List, [], ◌∷◌, ◌++◌, ◌⊎◌, ◌↔◌, ℕ, suc, ◌<◌, get_or, Ok, Err, Some, None}
use Rattle.table.specs.declared.Refusal.{Refusal}
use Rattle.table.specs.Checks.{Passed}
use Rattle.fabric.specs.Labels.{size, outside_sizes}
use Rattle.fabric.specs.Links.{Code}
use Rattle.fabric.specs.Walks.{switch_at}
use Rattle.scheme.specs.Tags.{steps_of}
use Rattle.paths.specs.Clear.{ClearPath, StageNamed}
use Rattle.notices.specs.declared.Notice.{Notice}
use Rattle.notices.specs.Notices.{names}
use Rattle.standing.specs.Picked.{LowestNumber}
use Rattle.book.specs.declared.Book.{Book}
use Rattle.table.specs.Reply.{Answer}
use Rattle.questions.specs.Entries.{Link}
use Rattle.book.specs.Standing.{counted_stops}
use Rattle.book.specs.Entries.{Files}
use Rattle.changes.specs.Runs.{Change}
use Rattle.routes.specs.Routed.{route_checks, Routes, Found}

-- what a controller does, over books of a kind of its own: the book that it opens, its answer to a change and the book after it, its
-- link test and its routes
pub record Controller (B : Type 0) : Type 0 where
  pub opens : ℕ → B
  pub answers : Change → B → Answer
  pub leaves : Change → B → B
  pub link : B → ℕ → ℕ → ℕ → Link
  pub route : B → ℕ → ℕ → ℕ → Found

-- Demand 1 with the table, for filings, and demand 2: its answers are those that the entries promise.
abbrev pub FilesAsPromised : Controller Book → Type 0
FilesAsPromised c = (b : Book) (x : Notice) → Files b x (record { book = c.leaves (Change.file x) b; answer = c.answers (Change.file x) b })

abbrev pub RoutesAsPromised : Controller Book → Type 0
RoutesAsPromised c = (b : Book) (s d choice : ℕ) → Routes b s d choice (c.route b s d choice)

-- "one whose every route is refused with 11": every one of some choice that 16, 10 and 5 let through
abbrev pub SaysElevenAlways : Controller Book → ℕ → Type 0
SaysElevenAlways c choice = (b : Book) (s d : ℕ) → Passed (route_checks b s d choice) → (i : ℕ) × (k : ℕ) × (c.route b s d choice ≡ Err (NoRoute.NoClearPath i k))

-- "one whose every tag is 0", to the routes of some choice
abbrev pub GivesTagZeroAlways : Controller Book → ℕ → Type 0
GivesTagZeroAlways c choice = (b : Book) (s d t : ℕ) → c.route b s d choice ≡ Ok t → t ≡ 0

-- "one that makes up the stage it names": somewhere, one that is not the stage named
pub record InventsAStage (c : Controller Book) : Type 0 where
  pub book : Book
  pub source : ℕ
  pub destination : ℕ
  pub choice : ℕ
  pub stage : ℕ
  pub number : ℕ
  pub answers : c.route book source destination choice ≡ Err (NoRoute.NoClearPath stage number)
  pub invented : StageNamed book.n (counted_stops choice book) source destination stage → ⊥

-- "one that accepts no filing"
abbrev pub RefusesEveryFiling : Controller Book → Type 0
RefusesEveryFiling c = (b : Book) (x : Notice) → (why : Refusal) × (c.answers (Change.file x) b ≡ Err why)

-- "The other arm of a fork is tried only at the switch whose link is stopped.": the link that is taken at a switch follows from the size,
-- source, destination, stage and switch, and from what stops the switch's own three links among the notices that count: to the routes of
-- some choice
abbrev switch_of : Book → ℕ → ℕ → ℕ → ℕ
switch_of b s t i = switch_at b.n s (steps_of b.n s t) i

pub record LooksOnlyWhereItStands (c : Controller Book) (choice : ℕ) : Type 0 where
  pub choose : (n s d stage switch straight plus minus : ℕ) → ℕ
  pub chosen : (b : Book) (s d t i : ℕ) → c.route b s d choice ≡ Ok t → i < b.n
      → let stops : ℕ → ℕ = counted_stops choice b i (switch_of b s t i) in get_or (steps_of b.n s t) i 0 ≡ choose b.n s d i (switch_of b s t i) (stops 0) (stops 1) (stops 2)

-- "No path is reported after one turn back that failed.": somewhere, although a path is clear
pub record GivesUp (c : Controller Book) : Type 0 where
  pub book : Book
  pub source : ℕ
  pub destination : ℕ
  pub choice : ℕ
  pub stage : ℕ
  pub number : ℕ
  pub answers : c.route book source destination choice ≡ Err (NoRoute.NoClearPath stage number)
  pub steps : List ℕ
  pub clear : ClearPath book.n (counted_stops choice book) source destination steps

-- Demand 3's first half, of any controller along its own runs: what it accepted, by its own answers, and what its own link test says.
module _ {B : Type 0} (c : Controller B) where
  abbrev pub Accepts : Change → B → Type 0
  Accepts a b = c.answers a b ≡ Ok tt

  unfoldable pub own_run : List Change → B → B
  own_run [] b = b
  own_run (a ∷ rest) b = own_run rest (c.leaves a b)

  -- the book after a run from the book that it opens for n stages
  abbrev pub ended : ℕ → List Change → B
  ended n changes = own_run changes (c.opens n)

  -- no change of the list, made in its turn from this book on, is an accepted withdrawal of number k
  unfoldable pub NeverWithdrawn : ℕ → List Change → B → Type 0
  NeverWithdrawn k [] b = Unit
  NeverWithdrawn k (a ∷ rest) b = (a ≡ Change.withdraw k → Accepts a b → ⊥) × NeverWithdrawn k rest (c.leaves a b)

  -- "a notice names it that was accepted and has not been withdrawn since"
  pub record Holds (n : ℕ) (changes : List Change) (x : Notice) : Type 0 where
    pub before : List Change
    pub later : List Change
    pub order : changes ≡ before ++ Change.file x ∷ later
    pub accepted : Accepts (Change.file x) (ended n before)
    pub kept : NeverWithdrawn x.number later (c.leaves (Change.file x) (ended n before))

  -- such a notice names the link, and some such notice does
  abbrev pub NamesLink : ℕ → List Change → ℕ → ℕ → ℕ → Notice → Type 0
  NamesLink n changes i j code x = Holds n changes x × (names n x i j code ≡ true)

  abbrev pub Named : ℕ → List Change → ℕ → ℕ → ℕ → Type 0
  Named n changes i j code = (x : Notice) × NamesLink n changes i j code x

  -- a link of a fabric of n stages
  abbrev pub IsLink : ℕ → ℕ → ℕ → ℕ → Type 0
  IsLink n i j code = (i < n) × (j < size n) × Code code

  -- "Take a book that was opened empty and any run of filings and withdrawals, with refused ones among them. After it a link is stopped
  -- exactly where a notice names it that was accepted and has not been withdrawn since"; docs/RULES.md, 'The book': with "the lowest
  -- number of a notice that stops the link"
  abbrev pub StopsWhatIsNamed : Type 0
  StopsWhatIsNamed = (n : ℕ) → outside_sizes n ≡ false → (changes : List Change) (i j code : ℕ) → IsLink n i j code
      → ((c.link (ended n changes) i j code ≡ Ok None) × (Named n changes i j code → ⊥))
      ⊎ ((k : ℕ) × (c.link (ended n changes) i j code ≡ Ok (Some k)) × LowestNumber (NamesLink n changes i j code) k)

  -- every link is clear in both of two books, or in neither: `same_links_itself`, `same_links_back` (proofs/Wide.antt)
  abbrev pub SameLinks : B → B → Type 0
  SameLinks a b = (i j code : ℕ) → (c.link a i j code ≡ Ok None) ↔ (c.link b i j code ≡ Ok None)

  -- after a run it accepts a filing that names a link which no notice named before
  pub record AcceptsAfter (n : ℕ) (changes : List Change) (x : Notice) : Type 0 where
    pub accepts : Accepts (Change.file x) (ended n changes)
    pub stage : ℕ
    pub switch : ℕ
    pub code : ℕ
    pub link : IsLink n stage switch code
    pub names : names n x stage switch code ≡ true
    pub unnamed : Named n changes stage switch code → ⊥

  -- "one that files without effect": it accepts one, and none changes what a link test says
  pub record FilesNothing : Type 0 where
    pub n : ℕ
    pub legal : outside_sizes n ≡ false
    pub notice : Notice
    pub acknowledges : AcceptsAfter n [] notice
    pub nothing : (b : B) (x : Notice) → SameLinks (c.leaves (Change.file x) b) b

  -- "one that keeps the first filing and only acknowledges the rest": while a notice stands, what it accepts changes no link
  pub record StoresTheFirstOnly : Type 0 where
    pub n : ℕ
    pub legal : outside_sizes n ≡ false
    pub changes : List Change
    pub first : Notice
    pub stands : Holds n changes first
    pub later : Notice
    pub acknowledges : AcceptsAfter n changes later
    pub nothing : (x : Notice) → Accepts (Change.file x) (ended n changes) → SameLinks (c.leaves (Change.file x) (ended n changes)) (ended n changes)

  -- "a link opens which another notice names too."
  pub record OpensForBoth : Type 0 where
    pub n : ℕ
    pub legal : outside_sizes n ≡ false
    pub changes : List Change
    pub number : ℕ
    pub other : Notice
    pub stands : Holds n changes other
    pub another : number ≡ other.number → ⊥
    pub stage : ℕ
    pub switch : ℕ
    pub code : ℕ
    pub link : IsLink n stage switch code
    pub still : names n other stage switch code ≡ true
    pub opens : c.link (ended n (changes ++ Change.withdraw number ∷ [])) stage switch code ≡ Ok None

  -- "Plus and minus of the last stage are taken for one link.": although it accepts a filing of plus alone. Any two that test alike there are one
  -- link, `alike_is_one_link`, and one link is clear in both or in neither, `one_link_alike` (proofs/Wide.antt).
  pub record PlusAndMinusOneLink : Type 0 where
    pub last : ℕ
    pub legal : outside_sizes (suc last) ≡ false
    pub changes : List Change
    pub switch : ℕ
    pub label : switch < size (suc last)
    pub plus : Named (suc last) changes last switch 1
    pub minus : Named (suc last) changes last switch 2 → ⊥
    pub one : (b : B) (j : ℕ) → (c.link b last j 1 ≡ Ok None) ↔ (c.link b last j 2 ≡ Ok None)
