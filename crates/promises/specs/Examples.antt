-- docs/RULES.md, 'Examples': the table, and what each row of it claims of the entries. Where a row says none or stopped, a notice's number is named too;
-- all notices are broken and all count.
use Rattle.routes.specs.declared.NoRoute.{NoRoute}
use Rattle.std.specs.Prelude.{List, [], ◌∷◌, ℕ, replicate, Ok, Err, Some}
use Rattle.table.specs.Reply.{Answer}
use Rattle.tags.specs.Entries.{TagToSteps, NormalForm, Tag}
use Rattle.notices.specs.declared.Target.TheVariants.{Links}
use Rattle.book.specs.Entries.{opened}
use Rattle.questions.specs.Entries.{Tests, Link}
use Rattle.changes.specs.Runs.{Change, run, AllAccepted}
use Rattle.routes.specs.Routed.{Routes, Found}

pub data Example : Type 0 where
  -- a size, the changes made to an empty book, a source, a destination, and the answer of a route over all notices
  route : ℕ → List Change → ℕ → ℕ → Found → Example
  -- a size, a source, a tag, and its normal form
  normal : ℕ → ℕ → ℕ → ℕ → Example
  -- a size, a source, a tag, and the steps written for it
  steps : ℕ → ℕ → ℕ → List ℕ → Example
  -- a size, the changes made to an empty book, a link (stage, switch, code) that is stopped after them, and the number that stops it
  stopped : ℕ → List Change → ℕ → ℕ → ℕ → ℕ → Example

-- Every change was accepted, and the entry answers so.
abbrev pub Claim : Example → Type 0
Claim (Example.route n changes s d answer) = AllAccepted changes (opened n) × Routes (run changes (opened n)) s d 0 answer
Claim (Example.normal n s tag form) = NormalForm n s tag (Ok form)
Claim (Example.steps n s tag cs) = TagToSteps n s tag (replicate n 0) (Ok tt) cs
Claim (Example.stopped n changes i j c k) = AllAccepted changes (opened n) × Tests (run changes (opened n)) i j c (Ok (Some k))

-- a filing of links of one switch, by number: stage, switch, set (straight 1, plus 2, minus 4)
abbrev pub links : ℕ → ℕ → ℕ → ℕ → Change
links k stage switch set = Change.file (record { number = k; target = Links stage switch set; class = 0 })

abbrev pub examples : List Example
examples =
    -- (1) to (6): n = 3, from 1 to 0
    Example.route 3 [] 1 0 (Ok 0)
    ∷ Example.route 3 (links 1 0 1 4 ∷ []) 1 0 (Ok 8)
    ∷ Example.route 3 (links 1 0 1 4 ∷ links 2 1 2 4 ∷ []) 1 0 (Ok 24)
    ∷ Example.route 3 (links 1 0 1 4 ∷ links 2 1 2 4 ∷ links 3 2 4 4 ∷ []) 1 0 (Ok 56)
    ∷ Example.route 3 (links 1 0 1 4 ∷ links 2 1 2 4 ∷ links 3 2 4 4 ∷ links 4 2 4 2 ∷ []) 1 0 (Err (NoRoute.NoClearPath 2 3))
    ∷ Example.route 3 (links 1 1 0 1 ∷ []) 1 0 (Ok 8)
    -- (7), (8)
    ∷ Example.normal 3 1 40 8
    ∷ Example.route 3 (links 1 1 5 1 ∷ []) 5 5 (Err (NoRoute.NoClearPath 1 1))
    -- (9), two routes, and (10)
    ∷ Example.route 1 [] 0 1 (Ok 1)
    ∷ Example.route 1 (links 1 0 0 2 ∷ []) 0 1 (Ok 3)
    ∷ Example.route 1 (links 1 0 0 2 ∷ links 2 0 0 4 ∷ []) 0 1 (Err (NoRoute.NoClearPath 0 1))
    -- (11)
    ∷ Example.route 2 (links 1 1 1 1 ∷ []) 0 1 (Ok 5)
    -- (12): the tag, and "every step is plus"
    ∷ Example.route 12 [] 0 4095 (Ok 4095)
    ∷ Example.steps 12 0 4095 (replicate 12 1)
    -- (13)
    ∷ Example.stopped 3 (links 7 0 1 4 ∷ links 8 0 1 4 ∷ Change.withdraw 7 ∷ []) 0 1 2 8
    ∷ []

-- every row of a table holds
unfoldable pub AllHold : List Example → Type 0
AllHold [] = Unit
AllHold (e ∷ es) = Claim e × AllHold es
