-- What was read is the front of the input, and is written as all of it is.
use Rattle.finals.proofs.Programs.{front_final_written}
use Rattle.final_sheet.proofs.run.Goals as goal

pub returns : goal.returns
returns c = front_final_written c.in_ok-bytes.ensures.ok_part c.requires.0 c.final_of.ensures
