-- A function over a book answers by the header's refusal, or over the book that the sheet makes.
use Rattle.sheet.specs.Format.{HeaderRead, headed}
use Rattle.std.specs.Prelude.{Ok, Err}
use mathlib.Core.Path.{◌≡◌, refl, ◌∙◌}
use mathlib.Core.List.{List}
use Prim.Native.Nat.{ℕ}
use lib.ListN.{length}
use Rattle.table.specs.declared.Refusal.{Refusal}
use Rattle.table.specs.Numbers.{number_of}
use Rattle.book.specs.declared.Book.{Book}
use Rattle.table.specs.Reply.{Answer}
use Rattle.book.specs.declared.Kept.{Kept}
use Rattle.book.specs.Standing.{Sound}
use Rattle.book.specs.Entries.{Opens}
use Rattle.sheet.specs.Entries.{ReadsHeader}
use Rattle.sheet.proofs.Promises.{header_sizes}
use Rattle.changes.specs.After.{After}
use Rattle.changes.proofs.After.{after_places}
use Rattle.handed.specs.Books.{HandsOver, HandsOver.makes, HandsOver.refuses, OverLent}

module _ {sheet : List ℕ} {b : Book} where
  -- the header's answer, and what is made by it
  pub hands_book : {h : HeaderRead} {n count version : ℕ} → ReadsHeader sheet h → h ≡ headed n count version → After sheet n count b × Sound b → HandsOver sheet b (Ok tt)
  hands_book reads e m = makes (rw e at reads) m.0 m.1

  pub hands_none : {h : HeaderRead} {why : Refusal} {r : Kept} → ReadsHeader sheet h → h ≡ Err why → Opens 0 r → b ≡ r.book → HandsOver sheet b (Err why)
  hands_none reads e o same = refuses (rw e at reads) (same ∙ o.leaves)

  module _ {a : Answer} (hands : HandsOver sheet b a) where
    -- 16 is not to be tested over it
    pub handed_sound : a ≡ Ok tt → Sound b
    handed_sound e = go (rw e at hands)
      where
        go : HandsOver sheet b (Ok tt) → Sound b
        go (makes reads after sound) = sound

    -- and it has all its places
    pub handed_places : a ≡ Ok tt → length b.notices ≡ 48
    handed_places e = go (rw e at hands)
      where
        go : HandsOver sheet b (Ok tt) → length b.notices ≡ 48
        go (makes reads after sound) = let size = header_sizes reads refl in after_places size.0 size.1 after

    module _ {before : List ℕ} {answers : Book → ℕ → Type 0} {r : ℕ} where
      pub over_handed : {after : List ℕ} → a ≡ Ok tt → answers b r → OverLent sheet before after answers r
      over_handed {after} e x = go (rw e at hands)
        where
          go : HandsOver sheet b (Ok tt) → OverLent sheet before after answers r
          go (makes {n = n} {count = count} {version = version} reads by sound) = record { header = headed n count version; reads = reads; over = (b, by, x) }

      pub over_refused : {why : Refusal} → a ≡ Err why → r ≡ number_of why → OverLent sheet before before answers r
      over_refused {why} e n = go (rw e at hands)
        where
          go : HandsOver sheet b (Err why) → OverLent sheet before before answers r
          go (refuses reads size) = record { header = Err why; reads = reads; over = (n, refl) }
