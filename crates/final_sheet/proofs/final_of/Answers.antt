-- The book that the sheet makes is sound, and the memory has room for the sheet of every book, so it is written.
use Rattle.finals.proofs.Programs.{final_written, final_has_room}
use Rattle.final_sheet.proofs.final_of.Goals as goal

pub returns-in_err-written : goal.returns-in_err-written
returns-in_err-written c = absurd (final_has_room c.in_ok-made.ensures.ok c.requires c.written.ensures c.in_err-written.was)

pub returns : goal.returns
returns c = final_written c.in_ok-made.ensures.ok c.requires c.written.ensures c.in_ok-written.was
