-- The header's refusal, or the change's, or the sheet of the book that the change makes.
use Rattle.changes.specs.Runs.{Change}
use Rattle.face.proofs.Changing.{change_refused, change_written}
use Rattle.face.proofs.over_sheet.file.Goals as goal

pub returns-in_err-file : goal.returns-in_err-file
returns-in_err-file c =
    change_refused c.in_ok-book.ensures.ok (Change.file _) _ _ _ c.in_err-file.ensures c.from_residual-in_err-file.ensures.1

pub returns : goal.returns
returns c = change_written c.in_ok-book.ensures.ok (Change.file _) _ _ c.in_ok-file.ensures c.file.new.self.sound c.written.ensures
