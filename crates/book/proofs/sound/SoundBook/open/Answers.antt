use mathlib.Core.Path.{ap, ◌∙◌}
use mathlib.Core.List.{List}
use Rattle.notices.specs.declared.Notice.{Notice}
use Rattle.book.specs.Standing.{unsound}
use Rattle.book.proofs.Sounds.{opened_sound}
use Rattle.book.proofs.sound.SoundBook.open.Goals as goal

pub invariant_of-result : goal.invariant_of-result
invariant_of-result c =
    record { sound = ap (λ (l : List Notice). unsound (record { n = c.args.fabric.n; count = 0; notices = l })) c.unused.ensures ∙ opened_sound c.args.fabric.n c.requires c.args.fabric.few }
