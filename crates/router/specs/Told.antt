-- The router's own bookkeeping: how far it has come through the notices. Nobody has to believe it; `Routes` is what it leads to.
use Rattle.std.specs.Prelude.{◌≡◌, Bool, ◌&&◌, ◌||◌, List, ℕ, ◌<◌}
use Rattle.frontier.specs.declared.links.Stops.{Stops}
use Rattle.frontier.specs.declared.ways.Columns.{Columns}
use Rattle.frontier.specs.Stops.{has, set_at}
use Rattle.notices.specs.declared.Notice.{Notice}
use Rattle.notices.specs.Notices.{names, unfit}
use Rattle.notices.specs.Classes.{counts}
use Rattle.standing.specs.Picked.{some}
use Rattle.standing.specs.Rising.{Filed}
use Rattle.named_links.specs.Named.{out_of}

-- whether some notice of a list names a link
abbrev pub named : ℕ → List Notice → ℕ → ℕ → ℕ → Bool
named n l i j c = some (λ x. names n x i j c) l

-- What is stopped on the way through a list, and what the rest of it still names: together what all of it names. The rest is in
-- order, so that filing accepts each of its notices.
pub record Told (n : ℕ) (columns : Columns) (all rest : List Notice) (w : Stops) : Type 0 where
  pub filed : (k : ℕ) × Filed (unfit n) k rest
  pub all_named : (i c : ℕ) → i < n → c < 3
      → (has (set_at i w) c || named n rest i (out_of columns i c) c) ≡ named n all i (out_of columns i c) c

-- whether a notice names one of a stage's ways onward
abbrev pub stops_one_of : ℕ → Columns → ℕ → ℕ → Notice → Bool
stops_one_of n columns i ways x =
    let on_way : ℕ → Bool = λ c. names n x i (out_of columns i c) c && has ways c in
    on_way 0 || (on_way 1 || on_way 2)

-- and is counted
abbrev pub counted_stops_one_of : ℕ → ℕ → Columns → ℕ → ℕ → Notice → Bool
counted_stops_one_of choice n columns i ways x = counts choice x && stops_one_of n columns i ways x
