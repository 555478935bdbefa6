-- What this read brought lies behind what came before it.
use Rattle.std.proofs.Common.{rules, length, ◌-◌, subst}
use Rattle.std.specs.Io.KnownBytes.{Consumes}
use Rattle.std.proofs.KnownBytes.{Consumes-trans}
use Rattle.streams.proofs.Filled.{joined}
use Rattle.streams.proofs.read.Goals as goal

pub loop-bytes-preserved : goal.loop-bytes-preserved
loop-bytes-preserved g c =
    let from = c.loop-bytes.bytes in
    let room = length c.loop-bytes.memory - from in
    let within = c.loop-bytes.invariant.1 in
    let long = joined from room c.in-Ok.more c.loop-bytes.memory c.read-answer.new.buf within c.in-Ok.ensures.bound.0 in
    (search rules, search rules, subst (Consumes _ _) long (Consumes-trans _ _ _ _ _ c.loop-bytes.invariant.2 c.in-Ok.ensures.bytes.0))
