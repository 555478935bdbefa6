-- After some turns the rows of the notices passed lie at the front and the rest is as it was: `one_row_more`.
use Rattle.std.proofs.Common.{◌≡◌, ◌*◌, ◌++◌, take, drop}
use Rattle.actions.specs.Rows.{rows}
use Rattle.places.proofs.rows.laid.Given as goal

abbrev pub invariant-loop-x : goal.invariant-loop-x
invariant-loop-x l = (l.at ≡ l.each * l.x-index) × (l.memory ≡ rows l.each (take l.x-index l.notices) ++ drop (l.each * l.x-index) l.initial.memory)
