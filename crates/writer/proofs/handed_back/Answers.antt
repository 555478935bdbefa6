-- A refusal is the change's own; the book of an accepted change is sound, and it is written.
use Rattle.std.proofs.lemmas.Result.{err_from_is_err_and}
use Rattle.book.proofs.Filings.{sound_passes}
use Rattle.written.proofs.Handing.{handed_refused, handed_writes}
use Rattle.writer.proofs.handed_back.Goals as goal

-- A change that was refused hands its own number on,
-- and nothing is written.
pub returns-in_err-kept : goal.returns-in_err-kept
returns-in_err-kept c =
    λ checks given made hands.
    let p = err_from_is_err_and c.from_residual.result c.from_residual.ensures.1 in
    rw (p.1, p.2) (handed_refused checks given made c.args.kept hands _ c.args.memory.now c.in_err-kept.was)

pub invariant_of-written : goal.invariant_of-written
invariant_of-written c = record { sound = sound_passes c.args.kept.book (c.requires c.in_ok-kept.was) }

pub returns : goal.returns
returns c =
    let w = c.written in
    let done = c.in_ok-kept.was in
    λ checks given made hands.
    handed_writes checks given made c.args.kept hands c.args.memory.now w.new.memory w.result done (c.requires done) w.ensures
