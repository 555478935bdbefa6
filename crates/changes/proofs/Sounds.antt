-- A sound book stays sound: what is opened is sound, and so is what a filing or withdrawing of a sound book leaves.
use mathlib.Core.Path.{◌≡◌, sym, ap, ap₂, subst, ◌∙◌}
use mathlib.Core.List.{List, ◌++◌}
use Prim.Native.Nat.{ℕ, ◌-◌, ◌≤◌}
use lib.ListN.{length, replicate}
use Rattle.notices.specs.declared.Notice.{Notice}
use Rattle.notices.specs.Notices.{unfit}
use Rattle.standing.specs.Rising.{filler, in_places, Filed}
use Rattle.standing.proofs.Filings.{places_in_all}
use Rattle.book.specs.declared.Book.{Book}
use Rattle.book.specs.Standing.{standing, book_of, Sound}
use Rattle.book.proofs.Filings.{standing_of, unused_of, length_standing, split}
use Rattle.changes.proofs.Changes.{Good}

-- a sound book is the book of what stands in it
pub whole : (b : Book) → Sound b → length b.notices ≡ 48 → book_of b.n (standing b) ≡ b
unfolding in_places
whole b sound places =
    let l = length_standing b sound places in
    ap₂ (λ (c : ℕ) (ns : List Notice). record { n = b.n; count = c; notices = ns }) l
    (ap (λ (k : ℕ). standing b ++ replicate (48 - k) filler) l ∙ sym (split b sound))

sound_book : (n : ℕ) (l : List Notice) → 1 ≤ n → n ≤ 12 → Filed (unfit n) 0 l → length l ≤ 48 → Sound (book_of n l)
sound_book n l some few filed fits =
    record {
      some = some;
      few = few;
      fits = fits;
      filed = rw standing_of filed;
      rest = unused_of n l;
    }

-- a book as accepted changes make it is sound
pub good_is_sound : (n : ℕ) (b : Book) → 1 ≤ n → n ≤ 12 → Good n b → Sound b
good_is_sound n b some few g = subst Sound (sym g.whole) (sound_book n (standing b) some few g.filed g.fits)

-- and has all its places
pub good_places : (n : ℕ) (b : Book) → Good n b → length b.notices ≡ 48
good_places n b g = ap (λ (c : Book). length c.notices) g.whole ∙ places_in_all (standing b) g.fits
