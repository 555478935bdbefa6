use Rattle.frontier.proofs.BitRead.{bit_read}
use Rattle.frontier.proofs.HighSwitch.{right_column, wrong_column}
use Rattle.frontier.proofs.ways.Column.between.Goals as goal

pub returns-then-bit_of-eq0 : goal.returns-then-bit_of-eq0
returns-then-bit_of-eq0 c = λ inside.
    let a = c.args in
    right_column a.fabric.n a.source a.destination _ a.fabric.few c.requires.1 c.distance-distance.ensures a.i inside (bit_read _ _ c.bit_of.ensures) c.above-high.ensures (c.below-low.ensures inside) c.if-bit_of-eq0.true

pub returns-else-bit_of-eq0 : goal.returns-else-bit_of-eq0
returns-else-bit_of-eq0 c = λ inside.
    let a = c.args in
    wrong_column a.fabric.n a.source a.destination _ a.fabric.few c.requires.1 c.distance-distance.ensures a.i inside (bit_read _ _ c.bit_of.ensures) c.above-high.ensures (c.below-low.ensures inside) c.if-bit_of-eq0.false
