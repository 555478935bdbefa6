-- After k turns the lines of the first k actions lie in their places, and the book is the one after them.
use mathlib.Core.Path.{◌≡◌}
use lib.ListN.{length}
use Rattle.printer.specs.Written.{LinesWritten}
use Rattle.changes.specs.After.{After}
use Rattle.printer.proofs.lines.Given as goal

abbrev pub invariant-loop-k : goal.invariant-loop-k
invariant-loop-k l = LinesWritten l.sheet l.fabric.n l.k l.initial.out l.at l.out l.next × (length l.out ≡ length l.initial.out) × After l.sheet l.fabric.n l.k l.book.book
