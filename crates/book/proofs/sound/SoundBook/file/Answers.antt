-- Past all checks `inserted` makes the book. The book is sound, so its places after the standing ones hold the filler, and the one that is made is sound again.
use mathlib.Core.Path.{◌≡◌, sym, ap, subst, ◌∙◌}
use Rattle.standing.specs.Rising.{stands}
use mathlib.Core.Bool.{false}
use Prim.Native.Nat.{◌<◌}
use native.Mathlib.Omega.{arith}
use borrow.Author.Rules.{rules}
use lib.ListN.{length}
use Rattle.notices.specs.declared.Notice.{Notice}
use Rattle.table.proofs.Checks.{accepting}
use Rattle.standing.proofs.Reading.{length_mapped}
use Rattle.book.specs.declared.Book.{Book}
use Rattle.book.specs.Standing.{standing, unsound}
use Rattle.book.proofs.Filings.{sound_if}
use Rattle.book.proofs.Sounds.{filed_sound}
use Rattle.book.proofs.Placing.{book_inserts}
use Rattle.book.proofs.Answers.{hands_back_done, not_full}
use Rattle.book.proofs.sound.SoundBook.file.Goals as goal

pub insert-requires : goal.insert-requires
insert-requires c =
    let places : length c.args.self.now.book.notices ≡ 48 = search (rules, length_mapped) in
    let sound = sound_if c.args.self.now.book places c.args.self.now.sound in
    (search rules, sound.rest)

pub invariant_of-self : goal.invariant_of-self
invariant_of-self c =
    let b : Book = c.args.self.now.book in
    let places : length b.notices ≡ 48 = search (rules, length_mapped) in
    let sound = sound_if b places c.args.self.now.sound in
    let x : Notice = c.args.notice in
    let some : 0 < x.number = let h = c.if-notice-eq0.false in omega arith in
    let e = book_inserts b sound places x c.insert.ensures in
    let s =
    filed_sound b sound places x some
    (sym c.outside_fabric.ensures ∙ c.if-outside_fabric.false)
    (sym c.bad_field.ensures ∙ c.if-bad_field.false)
    (sym c.too_wide.ensures ∙ c.if-too_wide.false)
    (ap (stands x.number) (sym c.notices.ensures) ∙ sym c.stands.ensures ∙ c.if-stands.false)
    (search rules) in
    record { sound = subst (λ (d : Book). unsound d ≡ false) (sym e) s }

pub returns : goal.returns
returns c =
    let b : Book = c.args.self.now.book in
    let places : length b.notices ≡ 48 = search (rules, length_mapped) in
    let sound = sound_if b places c.args.self.now.sound in
    let f = not_full b sound places (search rules) in
    let e = book_inserts b sound places c.args.notice c.insert.ensures in
    let free : stands c.args.notice.number (standing b) ≡ false = ap (stands c.args.notice.number) (sym c.notices.ensures) ∙ sym c.stands.ensures ∙ c.if-stands.false in
    let s : unsound b ≡ false = c.args.self.now.sound in
    search (hands_back_done, accepting) depth 16
