-- What is stopped on the way, and what the counted ones of the notices that are left still name, is together what all counted ones name.
use Rattle.std.proofs.Common.{drop}
use Rattle.notices.specs.Classes.{counts}
use Rattle.standing.specs.Picked.{those}
use Rattle.router.specs.Told.{Told}
use Rattle.router.proofs.stopped.Given as goal

abbrev pub invariant-loop-x : goal.invariant-loop-x
invariant-loop-x l = Told l.fabric.n l.columns (those (counts l.choice) l.notices) (those (counts l.choice) (drop l.x-index l.notices)) l.stops
