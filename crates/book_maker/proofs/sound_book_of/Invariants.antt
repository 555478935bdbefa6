-- After k turns the book is the one after the first k actions, in a fabric of as many stages as it was opened with.
use mathlib.Core.Path.{◌≡◌}
use Prim.Native.Nat.{ℕ}
use Rattle.book.specs.Entries.{opened}
use Rattle.changes.specs.After.{After}
use Rattle.book_maker.proofs.sound_book_of.Given as goal

abbrev pub invariant-loop-k : goal.invariant-loop-k
invariant-loop-k l = (n : ℕ) → l.initial.book.book ≡ opened n → After l.sheet n l.k l.book.book
