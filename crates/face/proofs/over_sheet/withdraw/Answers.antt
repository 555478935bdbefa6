-- The header's refusal, or the change's, or the sheet of the book that the change makes.
use Rattle.changes.specs.Runs.{Change}
use Rattle.face.proofs.Changing.{change_refused, change_written}
use Rattle.face.proofs.over_sheet.withdraw.Goals as goal

pub returns-in_err-withdraw : goal.returns-in_err-withdraw
returns-in_err-withdraw c =
    change_refused c.in_ok-book.ensures.ok (Change.withdraw _) _ _ _ c.in_err-withdraw.ensures c.from_residual-in_err-withdraw.ensures.1

pub returns : goal.returns
returns c = change_written c.in_ok-book.ensures.ok (Change.withdraw _) _ _ c.in_ok-withdraw.ensures c.withdraw.new.self.sound c.written.ensures
