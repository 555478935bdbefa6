-- Every run of changes has a life: at each step there is an answer and a memory that the promise allows.
use Rattle.sheet.specs.Format.{headed}
use Rattle.std.specs.Prelude.{Ok, Err}
use mathlib.Core.Path.{◌≡◌, refl, sym, subst, ◌∙◌}
use mathlib.Core.Bool.{false}
use mathlib.Core.List.{List, [], ◌∷◌, ◌++◌, map, append_assoc, append-nil}
use mathlib.Core.Logic.{◌⊎◌, inl, inr}
use Prim.Native.Nat.{ℕ, ◌≤◌}
use native.Mathlib.Omega.{arith}
use lib.ListN.{length, drop}
use Rattle.table.specs.declared.Refusal.{Refusal}
use Rattle.table.specs.Numbers.{number_of}
use Rattle.table.specs.Checks.{Check, Given, Given.here, Given.later, Passed, Passed.none, Passed.passes, numbers}
use Rattle.table.proofs.Checks.{zero_one, given_or_passed, given_before}
use Rattle.fabric.specs.Labels.{outside_sizes}
use Rattle.packing.specs.Packed.{packed, Tells}
use Rattle.book.specs.declared.Book.{Book}
use Rattle.book.specs.Standing.{standing, book_of}
use Rattle.book.specs.Entries.{open_checks, opened}
use Rattle.changes.specs.Runs.{Change, change_checks, changed, run}
use Rattle.changes.proofs.Reach.{opened_is}
use Rattle.written.specs.Sheets.{version_for, sheet_of, most_written, written_says, WritesSheet, Written}
use Rattle.written.proofs.Handing.{writes_refused, writes_fits}
use Rattle.written.proofs.Since.{sheet_stands_in}
use Rattle.handed.specs.Books.{OverLent}
use Rattle.held.specs.Lives.{Asks, held_then, Life, Life.opens, Life.asks}
use Rattle.held.proofs.Lives.{end, end_fits, made_fits, held_after, held_is_written}

-- a number that checks give is that of a refusal
named : (k : ℕ) (whys : List Refusal) (cs : List Check) → numbers cs ≡ map number_of whys → Given k cs → (why : Refusal) × (number_of why ≡ k)
named k [] (c ∷ cs) e g = absurd (zero_one cc)
named k (why ∷ whys) (c ∷ cs) e (here h is) = let f : c.number ≡ number_of why = cc in (why, sym f ∙ is)
named k (why ∷ whys) (c ∷ cs) e (later h g) = let f : numbers cs ≡ map number_of whys = cc in named k whys cs f g
named k (why ∷ whys) [] e g = elim g [ ]
named k [] [] e g = elim g [ ]

refusal_of : (k : ℕ) (a : Change) (b : Book) → Given k (change_checks a b) → (why : Refusal) × (number_of why ≡ k)
refusal_of k (Change.file x) b g =
    named k (Refusal.Book ∷ Refusal.Zero ∷ Refusal.Place ∷ Refusal.Field ∷ Refusal.Wide ∷ Refusal.Stands ∷ Refusal.Full ∷ []) (change_checks (Change.file x) b) refl g
refusal_of k (Change.withdraw j) b g = named k (Refusal.Book ∷ Refusal.Zero ∷ Refusal.Absent ∷ []) (change_checks (Change.withdraw j) b) refl g

-- an answer and a memory that the promise allows
abbrev Answered : List Check → Book → List ℕ → Type 0
Answered checks made before = (left : List ℕ) × (r : ℕ) × Tells (WritesSheet checks made before left) written_says r

answer_if : (checks : List Check) (made : Book) (before : List ℕ) → Passed checks → length (sheet_of made) ≤ length before → Answered checks made before
answer_if checks made before p fits =
    let r = Ok (length (sheet_of made)) in
    (sheet_of made ++ drop (length (sheet_of made)) before, packed (written_says r), (r, writes_fits checks made before _ _ p fits refl refl, refl))

refusal_if : (checks : List Check) (made : Book) (before : List ℕ) (why : Refusal) → Given (number_of why) checks → Answered checks made before
refusal_if checks made before why g =
    let r = Err why in
    (before, packed (written_says r), (r, writes_refused checks made before why (given_before checks _ g), refl))

module _ (n : ℕ) (legal : outside_sizes n ≡ false) (before : List ℕ) (enough : most_written ≤ length before) where
  module _ (changes : List Change) where
    abbrev b : Book
    b = end n legal changes

    a_change : (a : Change) → Answered (change_checks a b) (changed a b) before
    a_change a = by (given_or_passed (change_checks a b))
      where
        by : ((k : ℕ) × Given k (change_checks a b)) ⊎ Passed (change_checks a b) → Answered (change_checks a b) (changed a b) before
        by (inl g) =
            let w = refusal_of g.0 a b g.1 in
            refusal_if (change_checks a b) (changed a b) before w.0 (subst (λ (k : ℕ). Given k (change_checks a b)) (sym w.1) g.1)
        by (inr p) = let long = made_fits n legal changes a p in answer_if (change_checks a b) (changed a b) before p (omega arith)

    over_it : (answers : Book → ℕ → Type 0) (left : List ℕ) (r : ℕ) → answers b r → OverLent (sheet_of b) before left answers r
    over_it answers left r x =
        let s = sheet_stands_in n legal changes in
        record { header = headed n (length (standing b)) (version_for (standing b)); reads = s.0; over = (b, s.1, x) }

    asked : (a : Change) (left : List ℕ) (r : ℕ) → Tells (WritesSheet (change_checks a b) (changed a b) before left) written_says r → Asks (sheet_of b) a before left r
    asked a left r t = over_it _ left r t

    next : (a : Change) → Life n changes (sheet_of b) → Life n (changes ++ a ∷ []) (sheet_of (end n legal (changes ++ a ∷ [])))
    next a h =
        let w = a_change a in
        let q = asked a w.0 w.1 w.2 in
        subst (Life n (changes ++ a ∷ [])) (held_after n legal changes a before w.0 w.1 enough q) (asks a h enough q)

  first : Life n [] (sheet_of (end n legal []))
  unfolding run
  first =
      let fits : length (sheet_of (opened n)) ≤ most_written = end_fits n legal [] in
      let long : length (sheet_of (book_of n [])) ≤ most_written = subst (λ (b : Book). length (sheet_of b) ≤ most_written) (opened_is n legal) fits in
      let w = answer_if (open_checks n) (book_of n []) before (passes legal none) (omega arith) in
      let h : Life n [] (held_then [] w.0 w.1) = opens enough w.2 in
      subst (Life n []) (held_is_written n legal [] (held_then [] w.0 w.1) h) h

  pub every_run_is_held : (changes : List Change) → Life n changes (sheet_of (end n legal changes))
  every_run_is_held changes = on [] changes first
    where
      on : (earlier rest : List Change) → Life n earlier (sheet_of (end n legal earlier)) → Life n (earlier ++ rest) (sheet_of (end n legal (earlier ++ rest)))
      on earlier [] h = subst (λ (l : List Change). Life n l (sheet_of (end n legal l))) (sym (append-nil earlier)) h
      on earlier (a ∷ rest) h =
          subst (λ (l : List Change). Life n l (sheet_of (end n legal l))) (append_assoc earlier (a ∷ []) rest) (on (earlier ++ a ∷ []) rest (next earlier a h))
