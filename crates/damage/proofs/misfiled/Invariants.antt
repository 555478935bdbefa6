-- One pass: what is left, above the last number seen, still tells whether any notice is misfiled.
use Rattle.std.proofs.Common.{◌≡◌, drop}
use Rattle.notices.specs.Notices.{unfit}
use Rattle.standing.specs.Rising.{misfiled}
use Rattle.damage.proofs.misfiled.Given as goal

abbrev pub invariant-loop-x : goal.invariant-loop-x
invariant-loop-x l = misfiled (unfit l.fabric.n) 0 l.notices ≡ misfiled (unfit l.fabric.n) l.last (drop l.x-index l.notices)
