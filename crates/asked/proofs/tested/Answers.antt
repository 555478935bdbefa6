-- The checks in their order, of which a sound book passes the first; past them all the stopper is the answer.
use mathlib.Core.Path.{◌≡◌, ap}
use mathlib.Core.Bool.{false}
use Rattle.std.specs.Prelude.{Ok}
use Rattle.table.specs.Checks.{Passed}
use Rattle.table.proofs.Checks.{refusing, accepting}
use Rattle.book.specs.Standing.{unsound}
use Rattle.questions.specs.Entries.{link_checks}
use Rattle.questions.proofs.Answers.{link_refused}
use Rattle.questions.proofs.Testing.{answers_tests}
use Rattle.asked.proofs.tested.Goals as goal

pub returns-then-no_such_switch : goal.returns-then-no_such_switch
returns-then-no_such_switch c = let sound : unsound c.args.book.now.book ≡ false = c.args.book.now.sound in search (link_refused, refusing) depth 12

pub returns-then-code-gt2 : goal.returns-then-code-gt2
returns-then-code-gt2 c = let sound : unsound c.args.book.now.book ≡ false = c.args.book.now.sound in search (link_refused, refusing) depth 12

pub returns : goal.returns
returns c =
    let a = c.args in
    let b = a.book.now.book in
    let sound : unsound b ≡ false = a.book.now.sound in
    let passed : Passed (link_checks b a.stage a.switch a.code) = search accepting depth 12 in
    answers_tests b a.stage a.switch a.code (Ok c.stopper.result) passed (ap Ok c.stopper.ensures)
