-- What a run prints is shorter than its room.
use Rattle.face.proofs.Few.{run_fits}
use Rattle.face.proofs.tabashfar_run.Goals as goal

pub told-requires : goal.told-requires
told-requires c = run_fits c.run.result c.run.ensures
