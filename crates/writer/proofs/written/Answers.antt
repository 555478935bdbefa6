-- The memory has room for the sheet or it is refused: `sheet_exceeds`.
use Rattle.writer.proofs.Room.{sheet_exceeds}
use Rattle.writer.proofs.written.Goals as goal

pub returns-then-memory-bytes : goal.returns-then-memory-bytes
returns-then-memory-bytes c =
    sheet_exceeds c.args.book.now.sound c.notices-notices.ensures c.version_for-version.ensures c.action_length-each.ensures.0 c.if-memory-bytes.true
