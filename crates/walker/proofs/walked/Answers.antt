-- Each refusal is the number of the first check that holds, of which a sound book passes the first; where none does, the walk gives the answer.
use mathlib.Core.Path.{◌≡◌}
use mathlib.Core.Bool.{false}
use Rattle.table.proofs.Checks.{refusing, accepting}
use Rattle.book.specs.Standing.{unsound}
use Rattle.walks.proofs.Promises.{walk_refuses, walk_passes}
use Rattle.walker.proofs.walked.Goals as goal

pub returns-then-outside_tags : goal.returns-then-outside_tags
returns-then-outside_tags c = let sound : unsound c.args.book.now.book ≡ false = c.args.book.now.sound in search (walk_refuses, refusing) depth 10

pub returns : goal.returns
returns c = let sound : unsound c.args.book.now.book ≡ false = c.args.book.now.sound in search (walk_passes, accepting) depth 10
