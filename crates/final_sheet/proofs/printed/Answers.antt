-- The sheet lies within the memory, so what goes out is its bytes.
use Rattle.std.proofs.Common.{sym, length-take-le}
use Rattle.finals.proofs.Finals.{final_within}
use Rattle.final_sheet.proofs.printed.Goals as goal

pub slice_bounds-result-end : goal.slice_bounds-result-end
slice_bounds-result-end c =
    sym (length-take-le c.from.result c.args.memory.now (rw c.from.ensures (final_within c.requires.3 c.in-Ok.is)))
