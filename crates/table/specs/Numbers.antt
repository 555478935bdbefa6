-- docs/RULES.md, 'Numbers handed back': the number of each refusal. 11 comes with a stage and 17 ends a walk: `walk_says` of walks
-- and `route_says` of routes give them. `table_in_order` says that these are the table's numbers from top to bottom, `number_tells`
-- that no two refusals share one, `above_zero` that none is 0 (proofs/Numbers.antt).
use Rattle.std.specs.Prelude.{ℕ}
use Rattle.table.specs.declared.Refusal.{Refusal}
use Rattle.table.specs.declared.Refusal.TheVariants.{Size, Layout, Zero, Place, Field, Wide, Stands, Full, Absent, Label, Tag, Room, Mark, Length, Book}

abbrev pub number_of : Refusal → ℕ
number_of Size = 1
number_of Layout = 2
number_of Zero = 3
number_of Place = 4
number_of Field = 5
number_of Wide = 6
number_of Stands = 7
number_of Full = 8
number_of Absent = 9
number_of Label = 10
number_of Tag = 12
number_of Room = 13
number_of Mark = 14
number_of Length = 15
number_of Book = 16
