-- The sheet of the book after any run of filings and withdrawings from a newly opened book, refused ones among them: a header, and the filings of
-- exactly those notices that were accepted and not withdrawn since, by rising number.
use Rattle.std.specs.Prelude.{Ok}
use mathlib.Core.Path.{◌≡◌, refl, sym, ap, ap₂, subst, ◌∙◌}
use mathlib.Core.Bool.{Bool, false}
use mathlib.Core.List.{List, [], ◌∷◌, ◌++◌, map, Memᴰ}
use mathlib.Core.Logic.{◌↔◌}
use Prim.Native.Nat.{ℕ}
use lib.ListN.{length, take}
use Rattle.fabric.specs.Labels.{outside_sizes}
use Rattle.notices.specs.declared.Notice.{Notice}
use Rattle.notices.specs.Notices.{unfit}
use Rattle.standing.specs.Rising.{Filed, Distinct}
use Rattle.standing.proofs.Members.{same_notices}
use Rattle.actions.specs.Rows.{rows}
use Rattle.sheet.specs.Format.{header_bytes, headed}
use Rattle.sheet.specs.Entries.{ReadsHeader}
use Rattle.book.specs.declared.Book.{Book}
use Rattle.book.specs.Standing.{standing, unsound}
use Rattle.book.specs.Entries.{opened, book_checks}
use Rattle.changes.specs.Runs.{Change, run, StandsSince}
use Rattle.changes.specs.After.{After}
use Rattle.changes.proofs.Changes.{Good}
use Rattle.changes.proofs.Reach.{good_run, good_sound, opened_good, opened_is}
use Rattle.changes.proofs.Since.{stands_exactly, same_book}
use Rattle.written.specs.Sheets.{version_for, each_for, sheet_of, Writes, Written}
use Rattle.written.proofs.Entries.{sheet_answered}
use Rattle.changes.proofs.Sounds.{good_places}
use Rattle.written.proofs.Round.{header_of_sheet, runs_to_itself}

-- what is by rising number is so whatever is bad
filed_only : (bad : Notice → Bool) (k : ℕ) (l : List Notice) → Filed bad k l → Filed (λ x. false) k l
unfolding Filed
filed_only bad k [] f = tt
filed_only bad k (x ∷ xs) f = (f.0, refl, filed_only bad x.number xs f.2)

module _ (n : ℕ) (legal : outside_sizes n ≡ false) (changes : List Change) where
  abbrev end : Book
  end = run changes (opened n)

  end_good : Good n end
  end_good = good_run n changes (opened n) (rw (opened_is n legal) (opened_good n))

  same_size : end.n ≡ n
  same_size = ap (λ (b : Book). b.n) end_good.whole

  -- the book after a run is one that 16 is not given for
  pub end_sound : (length end.notices ≡ 48) × (unsound end ≡ false)
  end_sound = (good_places n end end_good, good_sound n end legal end_good)

  -- "the header, then a filing of every notice that stands, the lowest number first"
  pub sheet_since : (bad : Notice → Bool) (l : List Notice) → Filed bad 0 l → ((x : Notice) → Memᴰ x l ↔ StandsSince (opened n) changes x)
      → sheet_of end ≡ header_bytes (version_for l) n (length l) ++ rows (each_for l) l
  sheet_since bad l rising these =
      let same : l ≡ standing end =
      same_notices (λ x. false) (standing end) l 0 0 (filed_only (unfit n) 0 (standing end) end_good.filed) (filed_only bad 0 l rising)
      (λ x h. (stands_exactly n changes x).1 ((these x).0 h))
      (λ x h. (these x).1 ((stands_exactly n changes x).0 h)) in
      ap₂ (λ (m : ℕ) (k : List Notice). header_bytes (version_for k) m (length k) ++ rows (each_for k) k) same_size (sym same)

  -- so are the bytes that writing leaves after a run
  pub written_since : (before left : List ℕ) (bytes : ℕ) → Writes end before left (Ok bytes) → (bad : Notice → Bool) (l : List Notice) → Filed bad 0 l
      → ((x : Notice) → Memᴰ x l ↔ StandsSince (opened n) changes x) → take bytes left ≡ header_bytes (version_for l) n (length l) ++ rows (each_for l) l
  written_since before left bytes w bad l rising these = (sheet_answered (book_checks end) end before left (Ok bytes) w bytes refl).2 ∙ sheet_since bad l rising these

  -- there is such a list for every run
  pub since_rising : (l : List Notice) × Filed (unfit n) 0 l × ((x : Notice) → Memᴰ x l ↔ StandsSince (opened n) changes x)
  since_rising = (standing end, end_good.filed, stands_exactly n changes)

  -- whoever files those notices into a new book, in whatever order, has the same sheet
  pub sheet_any_order : (l : List Notice) → Distinct l → ((x : Notice) → Memᴰ x l ↔ StandsSince (opened n) changes x)
      → sheet_of (run (map Change.file l) (opened n)) ≡ sheet_of end
  sheet_any_order l distinct these = ap sheet_of (same_book n changes l distinct these).0

  -- so a sheet that was run may be left for the one that is written: it makes the same book
  pub sheet_stands_in : ReadsHeader (sheet_of end) (headed n (length (standing end)) (version_for (standing end))) × After (sheet_of end) n (length (standing end)) end
  sheet_stands_in = (
    subst (λ (m : ℕ). ReadsHeader (sheet_of end) (headed m (length (standing end)) (version_for (standing end)))) same_size (header_of_sheet end end_sound.0 end_sound.1),
    subst (λ (m : ℕ). After (sheet_of end) m (length (standing end)) end) same_size (runs_to_itself end end_sound.0 end_sound.1),
  )
