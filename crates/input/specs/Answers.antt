-- docs/RULES.md, 'What is printed': what a program answers by what it read, and what the program that runs a sheet writes. "The program
-- takes a sheet from standard input".
use Rattle.sheet.specs.Format.{HeaderRead}
use Rattle.std.specs.Prelude.{◌≡◌, List, [], ◌++◌, ℕ, ◌≤◌, length, take, drop, Option, Some, None}
use Rattle.sheet.specs.Entries.{ReadsHeader}
use Rattle.printed.specs.Runs.{Prints}

-- What reading the input gives: how many bytes lie at the front of the memory, or nothing, since a read failed.
abbrev pub Input : Type 0
Input = Option ℕ

-- What is written then: so many bytes at the front of the lines, or nothing, since the input could not be read.
abbrev pub Output : Type 0
Output = Option ℕ

-- what reading gives lies within the memory: so many bytes are there to be taken, `within_exactly`
abbrev pub Within : ℕ → Input → Type 0
Within room (Some bytes) = bytes ≤ room
Within room None = Unit

-- the first bytes of the memory are the input, all of it or as much of it as the memory holds: `read_is_held` says that this is so where
-- what came was put there from the front on
abbrev pub Holds : List ℕ → ℕ → List ℕ → Type 0
Holds memory bytes input = take bytes memory ≡ take (length memory) input

-- What a program answers and leaves in its memory, by what reading gave: `writes` says it of a sheet and the memory before, `unread` is the answer
-- where a read failed. `unread_exactly` says that this is the answer exactly where a read failed, `answers_once` that no second answer is left.
pub record Answers {A : Type 0} (writes : List ℕ → List ℕ → A → List ℕ → Type 0) (unread : A) (memory : List ℕ) (read : Input) (before : List ℕ) (answer : A) (after : List ℕ) : Type 0 where
  -- what was read is answered as the input that it is the front of
  pub whole : (bytes : ℕ) (input : List ℕ) → read ≡ Some bytes → Holds memory bytes input → writes input before answer after
  -- where a read failed nothing is written
  pub failed : read ≡ None → (answer ≡ unread) × (after ≡ before)

-- what a program may hand to standard output: a memory and an answer that are promised of some input, so the bytes at its front are what is
-- written of that input and no others
abbrev pub Promised : {A : Type 0} → (List ℕ → List ℕ → A → List ℕ → Type 0) → A → List ℕ → A → Type 0
Promised writes unread memory answer = (input : List ℕ) × (read : Input) × (before : List ℕ) × Answers writes unread input read before answer memory

-- the text of this sheet lies at the front of the memory, the rest is as before, and the answer is how long the text is: `text_once`
pub record WritesText (sheet before : List ℕ) (answer : Output) (after : List ℕ) : Type 0 where
  pub header : HeaderRead
  pub text : List ℕ
  pub reads : ReadsHeader sheet header
  pub prints : Prints sheet header text
  pub tells : answer ≡ Some (length text)
  pub leaves : after ≡ text ++ drop (length text) before

-- what the program that runs a sheet answers: `text_unread_exactly`, `text_answers_once`
abbrev pub AnswersText : (memory : List ℕ) (read : Input) (before : List ℕ) (answer : Output) (after : List ℕ) → Type 0
AnswersText = Answers WritesText None

-- What goes to standard output then: the text and nothing else, `prints_the_text`; nothing where a read failed, `unread_prints_nothing`.
abbrev pub text_printed : (lines : List ℕ) → Output → List ℕ
text_printed lines (Some bytes) = take bytes lines
text_printed lines None = []
