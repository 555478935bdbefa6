-- The pass goes from the last notice to the first, so what it holds is said of the notices from where it is on: they are judged, and the number of the first
-- of them that names the link is held. It leans on proofs/Judging.
use mathlib.Core.Path.{◌≡◌}
use lib.ListN.{length, take}
use Rattle.notices.specs.Notices.{names, unfit}
use Rattle.asked.specs.Lower.{first_number}
use Rattle.asked.proofs.Judging.{Judged, last}
use Rattle.asked.proofs.pass.in_one_pass.Given as goal

abbrev pub invariant-loop-x : goal.invariant-loop-x
invariant-loop-x l =
    Judged (unfit l.book.n) l.next (last (length l.yielded) (take l.count l.book.notices))
    × (l.lowest ≡ first_number (λ x. names l.book.n x l.stage l.switch l.code) (last (length l.yielded) (take l.count l.book.notices)))
