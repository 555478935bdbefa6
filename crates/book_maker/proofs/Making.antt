-- The book before a sheet's first action, and what a sheet hands over once all its actions are made.
use mathlib.Core.Path.{◌≡◌, refl}
use mathlib.Core.List.{List, []}
use Prim.Native.Nat.{ℕ}
use Rattle.sheet.specs.declared.Header.{Header}
use Rattle.sheet.specs.Entries.{ReadsHeader}
use Rattle.sheet.proofs.Promises.{header_sizes}
use Rattle.std.specs.Prelude.{Ok}
use Rattle.book.specs.declared.Book.{Book}
use Rattle.book.specs.Entries.{opened}
use Rattle.changes.specs.Runs.{run}
use Rattle.changes.specs.After.{Changes.none, After}
use Rattle.changes.proofs.After.{after_sound}
use Rattle.handed.specs.Books.{HandsOver, HandsOver.makes}

module _ {sheet : List ℕ} {b : Book} where
  pub nothing_made : {n : ℕ} → b ≡ opened n → After sheet n 0 b
  unfolding run
  nothing_made e = record { changes = []; held = none; makes = e }

  pub all_made : {head : Header} → ReadsHeader sheet (Ok head) → After sheet head.n head.count b → HandsOver sheet b (Ok tt)
  all_made reads after = let size = header_sizes reads refl in makes reads after (after_sound size.0 size.1 after)
