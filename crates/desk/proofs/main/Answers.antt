-- What was read lies within the memory.
use Rattle.std.proofs.Common.{rules}
use Rattle.desk.proofs.main.Goals as goal

pub run-text-requires : goal.run-text-requires
run-text-requires c = (search rules, search rules, rw c.ok.ensures.value c.read-read.ensures.within)
