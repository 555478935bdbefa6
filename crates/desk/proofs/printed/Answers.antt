-- The text lies within the lines, so what goes out is its bytes.
use Rattle.std.proofs.Common.{sym, length-take-le}
use Rattle.input.proofs.Promises.{text_within}
use Rattle.desk.proofs.printed.Goals as goal

pub slice_bounds-result-end : goal.slice_bounds-result-end
slice_bounds-result-end c = sym (length-take-le c.in-Some.bytes c.args.lines.now (text_within c.requires.3 c.in-Some.is))
