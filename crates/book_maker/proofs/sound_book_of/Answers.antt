-- The header's refusal, or the book after the sheet's actions, one more each turn: `nothing_made`, `all_made`.
use mathlib.Core.Path.{◌≡◌, refl}
use native.Mathlib.Omega.{arith}
use native.Mathlib.Numerals.{add-one}
use Rattle.std.proofs.lemmas.Result.{err_from_is_err_and}
use Rattle.changes.proofs.After.{after_more, nothing_changes}
use Rattle.handed.specs.Books.{HandsOver.refuses}
use Rattle.book_maker.proofs.Making.{nothing_made, all_made}
use Rattle.book_maker.proofs.sound_book_of.Goals.{in-Ok, in_default}
use Rattle.book_maker.proofs.sound_book_of.Goals as goal

pub returns-in_err-header-clause-err : goal.returns-in_err-header-clause-err
returns-in_err-header-clause-err c =
    let p = err_from_is_err_and c.from_residual.result c.from_residual.ensures.1 in
    rw (p.1, p.2) (refuses c.in_err-header.ensures refl)

pub loop-k-init : goal.loop-k-init
loop-k-init c = λ n e. nothing_made e

pub loop-k-preserved : goal.loop-k-preserved
loop-k-preserved c =
    λ n e.
    let read = rw c.action_part-part.ensures.bytes at c.read_action.ensures in
    let more = after_more (c.loop-k.invariant n e) read in
    elim c.match-read_action.branch [
      | in-Ok w ↦ rw (w.book-is, w.change.ensures, add-one) (rw w.in-Ok.is at more)
      | in_default w ↦ rw (w.book-is, add-one) (rw (w.in_default.is, ← nothing_changes c.loop-k.book.book) at more)
    ]

pub returns-clause-ok : goal.returns-clause-ok
returns-clause-ok c =
    let all : c.loop-k.k ≡ c.in_ok-header.header.count = omega (arith, c.from-k-end.ensures) in
    all_made c.in_ok-header.ensures (rw (← all) (c.loop-k.invariant _ c.open-book.ensures))
