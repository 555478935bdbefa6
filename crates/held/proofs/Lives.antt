-- What a host holds after any run of changes is the sheet of the book after that run, so every entry over it answers as over that book.
use mathlib.Core.Path.{◌≡◌, sym, ap, subst, ◌∙◌}
use mathlib.Core.Bool.{false}
use mathlib.Core.List.{List, [], ◌∷◌, ◌++◌}
use mathlib.Core.Logic.{◌⊎◌, inl, inr, ◌↔◌}
use Prim.Native.Nat.{ℕ, ◌≤◌, ◌%◌}
use native.Mathlib.Omega.{arith}
use lib.ListN.{length}
use Rattle.table.specs.Reply.{Reply, refused}
use Rattle.table.specs.Checks.{Given, Passed, Passed.none, Passed.passes}
use Rattle.table.proofs.Checks.{given_refuses, passed_accepts, given_or_passed, accepted_passed}
use Rattle.fabric.specs.Labels.{outside_sizes}
use Rattle.packing.specs.Packed.{Tells}
use Rattle.book.specs.declared.Book.{Book}
use Rattle.book.specs.Standing.{standing, book_of}
use Rattle.book.specs.Entries.{open_checks, opened}
use Rattle.book.proofs.Filings.{sound_if}
use Rattle.changes.specs.Runs.{Change, change_checks, changed, after, Accepted, run}
use Rattle.changes.proofs.Runs.{run_on}
use Rattle.changes.proofs.Reach.{opened_is}
use Rattle.handed.specs.Books.{OverLent}
use Rattle.handed.proofs.Once.{over_book}
use Rattle.written.specs.Sheets.{version_for, sheet_of, most_written, written_says, WritesSheet}
use Rattle.written.proofs.Handing.{at_most_written}
use Rattle.written.proofs.Since.{end_sound, sheet_stands_in}
use Rattle.held.specs.Lives.{Asks, held_then, Life, Life.opens, Life.asks}
use Rattle.held.proofs.Told.{told_passed, told_given}

module _ (n : ℕ) (legal : outside_sizes n ≡ false) where
  abbrev pub end : List Change → Book
  end changes = run changes (opened n)

  -- every entry over the sheet of a run's book answers as over that book
  pub over_sheet_of : (changes : List Change) (before left : List ℕ) (answers : Book → ℕ → Type 0) (r : ℕ) → OverLent (sheet_of (end changes)) before left answers r → answers (end changes) r
  over_sheet_of changes before left answers r o =
      let s = sheet_stands_in n legal changes in
      over_book (sheet_of (end changes)) before left answers r o n (length (standing (end changes))) (version_for (standing (end changes))) (end changes) s.0 s.1

  pub end_fits : (changes : List Change) → length (sheet_of (end changes)) ≤ most_written
  end_fits changes = let s = end_sound n legal changes in at_most_written (end changes) (sound_if (end changes) s.0 s.1)

  one_more : (changes : List Change) (a : Change) → end (changes ++ a ∷ []) ≡ after a (end changes)
  unfolding run
  one_more changes a = run_on changes (a ∷ []) (opened n)

  pub made_fits : (changes : List Change) (a : Change) → Passed (change_checks a (end changes)) → length (sheet_of (changed a (end changes))) ≤ most_written
  made_fits changes a p =
      let made : after a (end changes) ≡ changed a (end changes) = passed_accepts (λ k. end changes) (changed a (end changes)) (change_checks a (end changes)) p in
      subst (λ (b : Book). length (sheet_of b) ≤ most_written) (one_more changes a ∙ made) (end_fits (changes ++ a ∷ []))

  module _ (changes : List Change) (a : Change) (before left : List ℕ) (r : ℕ) (enough : most_written ≤ length before) (asked : Asks (sheet_of (end changes)) a before left r) where
    told : Tells (WritesSheet (change_checks a (end changes)) (changed a (end changes)) before left) written_says r
    told = over_sheet_of changes _ _ _ r asked

    accepts : Passed (change_checks a (end changes)) → (r % 256 ≡ 0) × (held_then (sheet_of (end changes)) left r ≡ sheet_of (after a (end changes)))
    accepts p =
        let made : after a (end changes) ≡ changed a (end changes) = passed_accepts (λ k. end changes) (changed a (end changes)) (change_checks a (end changes)) p in
        let long = made_fits changes a p in
        let w = told_passed (change_checks a (end changes)) (changed a (end changes)) (sheet_of (end changes)) before left r told p (omega arith) in
        (w.0, w.1 ∙ ap sheet_of (sym made))

    refuses : (k : ℕ) → Given k (change_checks a (end changes)) → ((r % 256 ≡ 0) → ⊥) × (held_then (sheet_of (end changes)) left r ≡ sheet_of (after a (end changes)))
    refuses k g =
        let kept : after a (end changes) ≡ end changes = given_refuses (λ j. end changes) (changed a (end changes)) k (change_checks a (end changes)) g in
        let w = told_given (change_checks a (end changes)) (changed a (end changes)) (sheet_of (end changes)) before left r told k g in
        (w.0, w.1 ∙ ap sheet_of (sym kept))

    -- a host reads 0 exactly where the entry accepts the change,
    pub asked_exactly : (r % 256 ≡ 0) ↔ Accepted a (end changes)
    asked_exactly = (yes_if (given_or_passed (change_checks a (end changes))), λ acc. (accepts (accepted_passed (change_checks a (end changes)) [] [] (sym acc))).0)
      where
        yes_if : ((k : ℕ) × Given k (change_checks a (end changes))) ⊎ Passed (change_checks a (end changes)) → r % 256 ≡ 0 → Accepted a (end changes)
        yes_if (inl g) z = absurd ((refuses g.0 g.1).0 z)
        yes_if (inr p) z = passed_accepts refused (Reply.accepted []) (change_checks a (end changes)) p

    -- and holds the sheet of the book after it, accepted or refused
    pub held_after : held_then (sheet_of (end changes)) left r ≡ sheet_of (end (changes ++ a ∷ []))
    held_after = by (given_or_passed (change_checks a (end changes))) ∙ ap sheet_of (sym (one_more changes a))
      where
        by : ((k : ℕ) × Given k (change_checks a (end changes))) ⊎ Passed (change_checks a (end changes)) → held_then (sheet_of (end changes)) left r ≡ sheet_of (after a (end changes))
        by (inl g) = (refuses g.0 g.1).1
        by (inr p) = (accepts p).1

  -- What a host holds is the sheet of the book after the run.
  pub held_is_written : (changes : List Change) (sheet : List ℕ) → Life n changes sheet → sheet ≡ sheet_of (end changes)
  unfolding run
  held_is_written changes sheet (opens {before = before} {after = left} {r = r} enough t) =
      let o = opened_is n legal in
      let fits = end_fits [] in
      let long : length (sheet_of (book_of n [])) ≤ most_written = subst (λ (b : Book). length (sheet_of b) ≤ most_written) o fits in
      (told_passed (open_checks n) (book_of n []) _ before left r t (passes legal none) (omega arith)).1 ∙ ap sheet_of (sym o)
  held_is_written changes sheet (asks {changes = earlier} {sheet = held} {before = before} {after = left} a {r = r} h enough asked) =
      let e = held_is_written earlier held h in
      ap (λ (l : List ℕ). held_then l left r) e ∙ held_after earlier a before left r enough (subst (λ (l : List ℕ). Asks l a before left r) e asked)

  -- so every entry over what a host holds answers as over the book after the run
  pub held_answers : (changes : List Change) (sheet before left : List ℕ) (answers : Book → ℕ → Type 0) (r : ℕ) → Life n changes sheet → OverLent sheet before left answers r → answers (end changes) r
  held_answers changes sheet before left answers r h o =
      over_sheet_of changes before left answers r (subst (λ (l : List ℕ). OverLent l before left answers r) (held_is_written changes sheet h) o)
