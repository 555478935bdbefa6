-- A sound book stays sound: what opening, and an accepted filing or withdrawing, make is sound.
use mathlib.Core.Path.{◌≡◌}
use mathlib.Core.Bool.{false}
use mathlib.Core.List.{[]}
use Prim.Native.Nat.{ℕ, ◌≤◌, ◌<◌}
use native.Mathlib.Omega.{arith}
use lib.ListN.{length}
use Rattle.notices.specs.declared.Notice.{Notice}
use Rattle.notices.specs.Notices.{outside_fabric, bad_field, too_wide, unfit}
use Rattle.notices.proofs.Fit.{all_pass}
use Rattle.standing.specs.Rising.{stands, Filed}
use Rattle.standing.proofs.Members.{insert_filed, insert_length, without_filed, without_length}
use Rattle.book.specs.declared.Book.{Book}
use Rattle.book.specs.Standing.{standing, unsound, book_of, Sound}
use Rattle.book.specs.Entries.{filed, withdrawn}
use Rattle.book.proofs.Filings.{sound_of, size_passes, length_standing}

pub opened_sound : (n : ℕ) → 1 ≤ n → n ≤ 12 → unsound (book_of n []) ≡ false
unfolding Filed
opened_sound n some few = sound_of n [] (size_passes n some few) tt (omega arith)

module _ (b : Book) (sound : Sound b) (places : length b.notices ≡ 48) where
  pub filed_sound : (x : Notice) → 0 < x.number → outside_fabric b.n x ≡ false → bad_field b.n x ≡ false → too_wide x ≡ false
      → stands x.number (standing b) ≡ false → b.count < 48 → unsound (filed b x) ≡ false
  filed_sound x some inside right narrow new room =
      let u : unfit b.n x ≡ false = (all_pass b.n x).1 (inside, right, narrow) in
      let l = length_standing b sound places in
      let m = insert_length x (standing b) in
      sound_of b.n _ (size_passes b.n sound.some sound.few)
      (insert_filed (unfit b.n) 0 x (standing b) sound.filed some u new)
      (omega arith)

  pub withdrawn_sound : (k : ℕ) → unsound (withdrawn b k) ≡ false
  withdrawn_sound k =
      let l = length_standing b sound places in
      let m = without_length k (standing b) in
      let h = sound.fits in
      sound_of b.n _ (size_passes b.n sound.some sound.few) (without_filed (unfit b.n) 0 k (standing b) sound.filed) (omega arith)
