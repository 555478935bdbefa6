-- Past both checks `removed` makes the book. One notice stands at least, and the book that is made is sound again.
use mathlib.Core.Path.{◌≡◌, sym, ap, subst, ◌∙◌}
use Rattle.standing.specs.Rising.{stands}
use mathlib.Core.Bool.{true, false, not}
use borrow.Author.Rules.{rules}
use lib.ListN.{length}
use Rattle.notices.specs.Notices.{unfit}
use Rattle.table.proofs.Checks.{accepting}
use Rattle.standing.proofs.Reading.{length_mapped}
use Rattle.book.specs.declared.Book.{Book}
use Rattle.book.specs.Standing.{standing, unsound}
use Rattle.book.proofs.Filings.{sound_if}
use Rattle.book.proofs.Sounds.{withdrawn_sound}
use Rattle.book.proofs.Placing.{some_stand, book_removes}
use Rattle.book.proofs.Answers.{hands_back_done}
use Rattle.book.proofs.sound.SoundBook.withdraw.Goals as goal

pub overflow_sub-self : goal.overflow_sub-self
overflow_sub-self c =
    let places : length c.args.self.now.book.notices ≡ 48 = search (rules, length_mapped) in
    let sound = sound_if c.args.self.now.book places c.args.self.now.sound in
    some_stand c.args.self.now.book sound places c.args.number (ap (stands c.args.number) (sym c.notices.ensures) ∙ sym c.stands.ensures ∙ c.if-not-stands.false)

pub remove-requires : goal.remove-requires
remove-requires c =
    let places : length c.args.self.now.book.notices ≡ 48 = search (rules, length_mapped) in
    let sound = sound_if c.args.self.now.book places c.args.self.now.sound in
    (sound.fits, sound.rest, ap (stands c.args.number) (sym c.notices.ensures) ∙ sym c.stands.ensures ∙ c.if-not-stands.false, (unfit c.args.self.now.book.n, sound.filed))

pub invariant_of-self : goal.invariant_of-self
invariant_of-self c =
    let b : Book = c.args.self.now.book in
    let places : length b.notices ≡ 48 = search (rules, length_mapped) in
    let sound = sound_if b places c.args.self.now.sound in
    let s = ap (stands c.args.number) (sym c.notices.ensures) ∙ sym c.stands.ensures ∙ c.if-not-stands.false in
    let e = book_removes b sound places c.args.number s c.remove.ensures in
    record { sound = subst (λ (d : Book). unsound d ≡ false) (sym e) (withdrawn_sound b sound places c.args.number) }

pub returns : goal.returns
returns c =
    let b : Book = c.args.self.now.book in
    let places : length b.notices ≡ 48 = search (rules, length_mapped) in
    let sound = sound_if b places c.args.self.now.sound in
    let s : stands c.args.number (standing b) ≡ true = ap (stands c.args.number) (sym c.notices.ensures) ∙ sym c.stands.ensures ∙ c.if-not-stands.false in
    let there : not (stands c.args.number (standing b)) ≡ false = ap not s in
    let e = book_removes b sound places c.args.number s c.remove.ensures in
    let u : unsound b ≡ false = c.args.self.now.sound in
    search (hands_back_done, accepting) depth 16
