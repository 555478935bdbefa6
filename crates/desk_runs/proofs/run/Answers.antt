-- What was printed lies within the memory: `runs_fit`.
use Rattle.std.proofs.Common.{sym, length-take-le}
use Rattle.printed.proofs.Promises.{runs_fit}
use Rattle.desk_runs.proofs.run.Goals as goal

pub slice_bounds-word-end : goal.slice_bounds-word-end
slice_bounds-word-end c = runs_fit c.run.ensures c.in-Ok.is

pub slice_bounds-word-end-in-Ok : goal.slice_bounds-word-end-in-Ok
slice_bounds-word-end-in-Ok c = sym (length-take-le c.in-Ok.bytes c.run.new.out (runs_fit c.run.ensures c.in-Ok.is))
