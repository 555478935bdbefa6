-- docs/RULES.md, 'What is printed': what an answer prints at the end of its line.
use Rattle.routes.specs.declared.NoRoute.{NoRoute}
use Rattle.std.specs.Prelude.{List, [], ◌∷◌, ℕ, Ok, Err}
use Rattle.printed.specs.Words.{decimal, tag_bits, refusal, OK, TAG, NONE, BY}
use Rattle.table.specs.Reply.{Answer}
use Rattle.routes.specs.Routed.{Found}

-- "`OK`, or `REFUSED` and the number of the refusal": `told_spelled`
abbrev pub told : Answer → List (List ℕ)
told (Ok _) = OK ∷ []
told (Err why) = refusal why

-- "`NONE`, the stage", and "`NONE`, the stage, `BY` and the number of the notice named": `found_spelled`
abbrev pub none_told : ℕ → ℕ → List (List ℕ)
none_told stage number = NONE ∷ decimal stage ∷ BY ∷ decimal number ∷ []

-- "`TAG` and the 2n bits of the tag, bit 0 first; `NONE`, the stage, `BY` and the number of the notice named; or `REFUSED` and the number of the refusal":
-- `found_spelled`
abbrev pub found_told : ℕ → Found → List (List ℕ)
found_told n (Ok tag) = TAG ∷ tag_bits n tag ∷ []
found_told n (Err (NoRoute.NoClearPath stage number)) = none_told stage number
found_told n (Err (NoRoute.Refused why)) = refusal why
