-- What was read is the front of the input, and is written as all of it is.
use Rattle.input.proofs.Promises.{run_of_read_written}
use Rattle.program.proofs.run.Goals as goal

pub returns : goal.returns
returns c = run_of_read_written c.in_ok-bytes.was c.requires.0 c.requires.1 c.run.ensures c.ok.ensures.value
