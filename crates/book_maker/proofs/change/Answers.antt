-- What the entry of the action leaves.
use Rattle.changes.proofs.After.{files_leave, withdraws_leave}
use Rattle.book_maker.proofs.change.Goals as goal

pub returns-in-File : goal.returns-in-File
returns-in-File c = rw c.in-File.is (files_leave _ _ _ c.file.ensures)

pub returns-in-Withdraw : goal.returns-in-Withdraw
returns-in-Withdraw c = rw c.in-Withdraw.is (withdraws_leave _ _ _ c.withdraw.ensures)
