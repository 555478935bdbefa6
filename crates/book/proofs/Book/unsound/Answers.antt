-- The test of the book's parts is the book's; where it fails, what it tells is `Sound`.
use mathlib.Core.Path.{◌≡◌, sym, ◌∙◌}
use borrow.Author.Rules.{rules}
use lib.ListN.{length}
use Rattle.standing.proofs.Reading.{length_mapped}
use Rattle.book.proofs.Filings.{sound_if}
use Rattle.book.proofs.Book.unsound.Goals as goal

pub returns : goal.returns
returns c =
    let b = c.args.self.now in
    let full : length b.notices ≡ 48 = search (rules, length_mapped) in
    (c.damaged.ensures, λ e. sound_if b full (sym c.damaged.ensures ∙ e))
