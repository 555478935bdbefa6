-- docs/RULES.md, 'Routes', 'Entries' and 'Classes': what a route answers. The theorems named here stand in proofs/Once.antt, over any rule, and in
-- proofs/Entries.antt, over a book, unless another file is named.
use Rattle.routes.specs.declared.NoRoute.{NoRoute}
use Rattle.std.specs.Prelude.{◌≡◌, true, ◌||◌, ℕ, Result, Ok, Err}
use mathlib.Core.List.{List, [], ◌∷◌, ◌++◌, Memᴰ}
use Rattle.table.specs.Numbers.{number_of}
use Rattle.table.specs.Reply.{Reply, refused}
use Rattle.table.specs.Checks.{Check, Given, Passed, ◌when◌, ◌not_below◌}
use Rattle.fabric.specs.Labels.{size}
use Rattle.scheme.specs.Tags.{normal_tag}
use Rattle.paths.specs.Clear.{Rule, ClearPath, First, StageNamed}
use Rattle.paths.specs.Ways.{Way, NumberNamed}
use Rattle.notices.specs.declared.Notice.{Notice}
use Rattle.notices.specs.Notices.{names}
use Rattle.notices.specs.Classes.{bad_class}
use Rattle.book.specs.declared.Book.{Book}
use Rattle.book.specs.Standing.{stopper, counted_stops}
use Rattle.book.specs.Entries.{book_checks}

-- the number and values of each answer: 11 comes with a stage and a notice's number. `tag_exactly` and `eleven_routed` say what the answer is exactly where
-- it is accepted and where it is 11, `found_numbered` that no refusal has number 0.
abbrev pub Found : Type 0
Found = Result ℕ NoRoute

abbrev pub route_says : Found → Reply
route_says (Ok t) = Reply.accepted (t ∷ [])
route_says (Err (NoRoute.NoClearPath i k)) = Reply.refused_with 11 (i ∷ k ∷ [])
route_says (Err (NoRoute.Refused r)) = refused (number_of r)

-- "A route answers the normal tag of the first clear path"; "11: for a route, no path is clear, with the stage named"; "The number named is the
-- lowest of a notice that counts and stops a way onward". `routed_once` says that there is at most one answer.
abbrev pub Routed : ℕ → Rule → ℕ → ℕ → Found → Type 0
Routed n stops s d (Ok t) = (cs : List ℕ) × First n stops s d cs × (t ≡ normal_tag n s cs)
Routed n stops s d (Err (NoRoute.NoClearPath i k)) = ((cs : List ℕ) → ClearPath n stops s d cs → ⊥) × StageNamed n stops s d i × NumberNamed n stops s d i k
Routed n stops s d (Err (NoRoute.Refused r)) = ⊥

-- "Route (book, source, destination, choice): 16, 10, 5", the last for a choice above 1. `route_order` reads the numbers off, `route_lets_pass` says what
-- passes.
abbrev pub route_checks : Book → ℕ → ℕ → ℕ → List Check
route_checks b s d choice = book_checks b ++ (10 when (s not_below size b.n || d not_below size b.n)) ∷ (5 when bad_class choice) ∷ []

-- Past them, what docs/RULES.md says of all paths over the links that are "stopped by a notice that counts": `tag_exactly` and `eleven_exactly` say when a tag
-- is given and when 11; `route_once`: no second answer. `all_counted_route` says that choice 0 is over all links that the book stops, `broken_alone_route` that
-- choice 1 is a route over a book of the broken notices alone (proofs/Choices.antt).
pub record Routes (b : Book) (s d choice : ℕ) (answer : Found) : Type 0 where
  pub refuses : (k : ℕ) → Given k (route_checks b s d choice) → route_says answer ≡ refused k
  pub routes : Passed (route_checks b s d choice) → Routed b.n (counted_stops choice b) s d answer

-- a notice of a list that stops a way onward at stage i: among notices by rising number, as they stand in a book, the number named is the lowest of one
-- that does, `number_by_notices` (proofs/Numbers.antt)
abbrev pub StopsAWay : ℕ → List Notice → ℕ → ℕ → ℕ → Notice → Type 0
StopsAWay n l s d i x = Memᴰ x l × ((j : ℕ) × (c : ℕ) × Way n (stopper n l) s d i j c × (names n x i j c ≡ true))

-- the same tag, or the same stage: two answers that differ at most in the number named. `same_tag`, `same_stage` and `same_refusal` say so; rules that stop the
-- same links lead to such answers, `routed_alike` (proofs/Alike.antt).
abbrev pub SameTagOrStage : Found → Found → Type 0
SameTagOrStage (Ok t) (Ok u) = t ≡ u
SameTagOrStage (Ok t) (Err (NoRoute.NoClearPath j m)) = ⊥
SameTagOrStage (Ok t) (Err (NoRoute.Refused r)) = ⊥
SameTagOrStage (Err (NoRoute.NoClearPath i k)) (Ok u) = ⊥
SameTagOrStage (Err (NoRoute.NoClearPath i k)) (Err (NoRoute.NoClearPath j m)) = i ≡ j
SameTagOrStage (Err (NoRoute.NoClearPath i k)) (Err (NoRoute.Refused r)) = ⊥
SameTagOrStage (Err (NoRoute.Refused q)) (Ok u) = ⊥
SameTagOrStage (Err (NoRoute.Refused q)) (Err (NoRoute.NoClearPath j m)) = ⊥
SameTagOrStage (Err (NoRoute.Refused q)) (Err (NoRoute.Refused r)) = q ≡ r
