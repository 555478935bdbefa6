-- A book that passes the test of 16.
use mathlib.Core.Path.{◌≡◌, ap, ◌∙◌}
use mathlib.Core.Bool.{false, ◌||◌}
use mathlib.Core.List.{List, ◌++◌}
use Prim.Native.Nat.{ℕ, ◌-◌, ◌≤◌, ◌<◌}
use native.Mathlib.Omega.{arith}
use borrow.Author.Tests.{ltb-false, le-ltb}
use lib.ListN.{length, get_or, replicate, length-drop}
use lib.Seq.{length-take-le, get_or-take}
use Rattle.table.proofs.Checks.{neither, neither_of}
use Rattle.table.specs.Checks.{◌below◌}
use Rattle.fabric.specs.Labels.{outside_sizes}
use Rattle.standing.proofs.Members.{filed_exactly}
use Rattle.places.proofs.Keeping.{parted}
use Rattle.standing.proofs.Filings.{filed_if, filed_passes, unlittered, filler_unlittered, places_first, places_after}
use Rattle.book.specs.declared.Book.{Book}
use Rattle.notices.specs.declared.Notice.{Notice}
use Rattle.notices.specs.Notices.{unfit}
use Rattle.standing.specs.Rising.{filler, Filed, misfiled, littered}
use Rattle.book.specs.Standing.{standing, unused, book_of, unsound, Sound}

-- the notices of a list stand in the book that is made of them
pub standing_of : (n : ℕ) (l : List Notice) → standing (book_of n l) ≡ l
standing_of n l = places_first l

-- and its other places are unused
pub unused_of : (n : ℕ) (l : List Notice) → unused (book_of n l) ≡ replicate (48 - length l) filler
unused_of n l = places_after l

-- what a book that passes the test of 16 is like
pub sound_if : (b : Book) → length b.notices ≡ 48 → unsound b ≡ false → Sound b
sound_if b n e =
    let o = neither (outside_sizes b.n || 48 below b.count || misfiled (unfit b.n) 0 (standing b)) (littered (unused b)) e in
    let p = neither (outside_sizes b.n || 48 below b.count) (misfiled (unfit b.n) 0 (standing b)) o.0 in
    let q = neither (outside_sizes b.n) (48 below b.count) p.0 in
    let s = neither (b.n below 1) (12 below b.n) q.0 in
    let d : length (unused b) ≡ 48 - b.count = length-drop b.count b.notices ∙ ap (λ (k : ℕ). k - b.count) n in
    record {
      some = ltb-false b.n 1 s.0;
      few = ltb-false 12 b.n s.1;
      fits = ltb-false 48 b.count q.1;
      filed = filed_if (unfit b.n) 0 (standing b) p.1;
      rest = unlittered (unused b) o.1 ∙ ap (λ (k : ℕ). replicate k filler) d;
    }

-- and a book that is like that passes
pub sound_passes : (b : Book) → Sound b → unsound b ≡ false
sound_passes b s =
    neither_of (outside_sizes b.n || 48 below b.count || misfiled (unfit b.n) 0 (standing b)) (littered (unused b))
    (neither_of (outside_sizes b.n || 48 below b.count) (misfiled (unfit b.n) 0 (standing b))
    (neither_of (outside_sizes b.n) (48 below b.count)
    (neither_of (b.n below 1) (12 below b.n) (le-ltb b.n 1 s.some) (le-ltb 12 b.n s.few))
    (le-ltb 48 b.count s.fits))
    (filed_passes (unfit b.n) 0 (standing b) s.filed))
    (ap littered s.rest ∙ filler_unlittered (48 - b.count))

-- the book of notices as filing leaves them passes the test of 16
pub sound_of : (n : ℕ) (l : List Notice) → outside_sizes n ≡ false → Filed (unfit n) 0 l → length l ≤ 48 → unsound (book_of n l) ≡ false
sound_of n l size f h =
    neither_of (outside_sizes n || 48 below length l || misfiled (unfit n) 0 (standing (book_of n l))) (littered (unused (book_of n l)))
    (neither_of (outside_sizes n || 48 below length l) (misfiled (unfit n) 0 (standing (book_of n l)))
    (neither_of (outside_sizes n) (48 below length l) size (le-ltb 48 (length l) h))
    (ap (misfiled (unfit n) 0) (standing_of n l) ∙ filed_passes (unfit n) 0 l f))
    (ap littered (unused_of n l) ∙ filler_unlittered (48 - length l))

-- the sizes of docs/RULES.md, as the test of them says
pub size_passes : (n : ℕ) → 1 ≤ n → n ≤ 12 → outside_sizes n ≡ false
size_passes n some few = neither_of _ _ (le-ltb n 1 some) (le-ltb 12 n few)

-- as many stand as such a book counts
pub length_standing : (b : Book) → Sound b → length b.notices ≡ 48 → length (standing b) ≡ b.count
length_standing b sound full = let h = sound.fits in length-take-le b.count b.notices (omega arith)

-- what stands, and unused places after it
pub split : (b : Book) → Sound b → b.notices ≡ standing b ++ replicate (48 - b.count) filler
split b sound = parted b.count b.notices sound.rest

-- "the lowest number first": in a book that passes, of two notices that stand the one at the later place has the higher number
pub listed_rising : (b : Book) → length b.notices ≡ 48 → unsound b ≡ false
    → (i j : ℕ) → i < j → j < b.count → (get_or b.notices i filler).number < (get_or b.notices j filler).number
listed_rising b n e i j h k =
    let s = sound_if b n e in
    let l = s.fits in
    let t = length-take-le b.count b.notices (omega arith) in
    let r = ((filed_exactly (unfit b.n) filler 0 (standing b)).0 s.filed).1 i j h (omega arith) in
    let p = ap (λ (x : Notice). x.number) (get_or-take b.count b.notices i filler (omega arith)) in
    let q = ap (λ (x : Notice). x.number) (get_or-take b.count b.notices j filler k) in
    omega arith
