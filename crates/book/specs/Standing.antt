-- docs/RULES.md, 'The book' and 'Classes': what stands in a book, and what stops a link.
use Rattle.std.specs.Prelude.{◌≡◌, Bool, ◌||◌, List, ℕ, ◌-◌, ◌≤◌, length, take, drop, replicate}
use Rattle.table.specs.Checks.{◌below◌}
use Rattle.fabric.specs.Labels.{outside_sizes}
use Rattle.notices.specs.declared.Notice.{Notice}
use Rattle.notices.specs.Notices.{names, unfit}
use Rattle.notices.specs.Classes.{counts}
use Rattle.standing.specs.Picked.{Picked, Some, lowest, those}
use Rattle.standing.specs.Rising.{filler, in_places, Filed, misfiled, littered}
use Rattle.book.specs.declared.Book.{Book}

-- the notices that stand
abbrev pub standing : Book → List Notice
standing b = take b.count b.notices

-- the places after them
abbrev pub unused : Book → List Notice
unused b = drop b.count b.notices

-- The book of a fabric of n stages in which the notices of a list stand (`standing_of`, proofs/Filings.antt). "A book has room for 48 notices":
-- `run_at_most_48` (changes/proofs/Since.antt).
abbrev pub book_of : ℕ → List Notice → Book
book_of n l = record { n = n; count = length l; notices = in_places l }

-- The test behind 16, "a book to which no accepted opening, filings and withdrawals lead": `reachable_sound` and
-- `sound_reachable` (changes/proofs/Reach.antt) say that it is that sentence exactly.
abbrev pub unsound : Book → Bool
unsound b = outside_sizes b.n || 48 below b.count || misfiled (unfit b.n) 0 (standing b) || littered (unused b)

-- what holds of a book that passes: `sound_if` (proofs/Filings.antt)
pub record Sound (b : Book) : Type 0 where
  pub some : 1 ≤ b.n
  pub few : b.n ≤ 12
  pub fits : b.count ≤ 48
  pub filed : Filed (unfit b.n) 0 (standing b)
  pub rest : unused b ≡ replicate (48 - b.count) filler

-- a notice that stands in the list and names the link
abbrev pub StopsLink : ℕ → List Notice → ℕ → ℕ → ℕ → Notice → Type 0
StopsLink n l i j c = Picked (λ x. names n x i j c) l

-- some notice that stands in the list names the link
abbrev pub Stopped : ℕ → List Notice → ℕ → ℕ → ℕ → Type 0
Stopped n l i j c = Some (λ x. names n x i j c) l

-- The number of the first notice of the list that names the link, 0 where none does. `stopper_none` and `stopper_some` (proofs/Stoppers.antt)
-- tie it to `Stopped`, and `stopper_exactly` says that it is the lowest such number among standing notices.
abbrev pub stopper : ℕ → List Notice → ℕ → ℕ → ℕ → ℕ
stopper n l i j c = lowest (λ x. names n x i j c) l

-- Which links a book stops, and the lowest number that does: `stops_exactly` (proofs/Entries.antt). `stopped_exactly` (changes/proofs/Since.antt)
-- says that these are the links that the notices accepted and not withdrawn since name.
abbrev pub stops_of : Book → ℕ → ℕ → ℕ → ℕ
stops_of b i j c = stopper b.n (standing b) i j c

-- docs/RULES.md, 'Classes': the notices that a route of this choice counts, all of those that stand or the broken ones only: `all_counted_stand` and
-- `broken_counted_stand` (proofs/Counted.antt)
abbrev pub counted : ℕ → Book → List Notice
counted choice b = those (counts choice) (standing b)

-- "stopped by a notice that counts": which links these stop, and the lowest number that does. `counted_exactly` (proofs/Counted.antt).
-- `clear_since` (promises/proofs/Clearness.antt) says that these are the links that the counted ones among the notices accepted and not
-- withdrawn since name.
abbrev pub counted_stops : ℕ → Book → ℕ → ℕ → ℕ → ℕ
counted_stops choice b i j c = stopper b.n (counted choice b) i j c
