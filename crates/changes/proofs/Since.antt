-- Demand 3 for the book. After any run of filings and withdrawings from a newly opened book, refused ones among them, exactly
-- those notices stand that were accepted and not withdrawn since; and the book is that into which only they were filed.
use Rattle.std.specs.Prelude.{Ok, Some, None}
use mathlib.Core.Path.{◌≡◌, refl, sym, ap, subst, ◌∙◌}
use mathlib.Core.Bool.{Bool, true, false}
use mathlib.Core.List.Memᴰ
use mathlib.Core.List.{List, [], ◌∷◌, map, Memᴰ}
use mathlib.Core.Logic.{◌⊎◌, inl, inr, ⊎_elim, ◌↔◌}
use Prim.Native.Nat.{ℕ, zero, suc, ◌≤◌, ◌<◌}
use native.Mathlib.Omega.{arith}
use borrow.Author.Tests.{lt-leb, le-ltb}
use lib.Dec.{leb}
use lib.ListN.{length}
use Rattle.table.proofs.Checks.{neither_of, zero_one}
use Rattle.table.specs.Checks.{Passed, Passed.none, Passed.passes}
use Rattle.fabric.specs.Labels.{size, outside_sizes}
use Rattle.notices.specs.declared.Notice.{Notice}
use Rattle.book.specs.declared.Book.{Book}
use Rattle.notices.specs.Notices.{names, unfit}
use Rattle.standing.specs.Picked.{LowestNumber}
use Rattle.book.specs.Standing.{standing, book_of, StopsLink, stopper}
use Rattle.book.specs.Entries.{opened}
use Rattle.questions.specs.Entries.{link_checks, Tests, Link}
use Rattle.changes.specs.Runs.{NamesSince, NamedSince, Change, after, Accepted, run, AllAccepted, NotWithdrawn, StandsSince}
use Rattle.standing.specs.Rising.{Filed, Distinct}
use Rattle.standing.proofs.Members.{filed_distinct}
pub use Rattle.changes.proofs.Runs.{run_on}
use Rattle.changes.proofs.Changes.{Good, good_after, filed_stands, stands_on, stood_or_filed}
use Rattle.changes.proofs.Reach.{good_run, good_sound, opened_good, opened_is, any_order}
use Rattle.book.proofs.Stoppers.{stopper_none, stopper_exactly}
use Rattle.standing.proofs.Lowest.{lowest_number_as}

module _ (n : ℕ) (x : Notice) where
  stays : (changes : List Change) (b : Book) → Good n b → Memᴰ x (standing b) → NotWithdrawn x.number changes b → Memᴰ x (standing (run changes b))
  unfolding run NotWithdrawn
  stays [] b g m w = m
  stays (a ∷ rest) b g m w = stays rest (after a b) (good_after n b g a) (stands_on n b g x a m w.0) w.1

  since_stands : (changes : List Change) (b : Book) → Good n b → StandsSince b changes x → Memᴰ x (standing (run changes b))
  unfolding run
  since_stands changes b g s =
      let c : Book = run s.before b in
      let h : Good n c = good_run n s.before b g in
      let e : run changes b ≡ run s.later (after (Change.file x) c) = ap (λ (l : List Change). run l b) s.order ∙ run_on s.before (Change.file x ∷ s.later) b in
      rw e (stays s.later (after (Change.file x) c) (good_after n c h (Change.file x)) (filed_stands n c h x s.accepted) s.kept)

  stood_or_since : (changes : List Change) (b : Book) → Good n b → Memᴰ x (standing (run changes b))
      → (Memᴰ x (standing b) × NotWithdrawn x.number changes b) ⊎ StandsSince b changes x
  unfolding run NotWithdrawn
  stood_or_since [] b g m = inl (m, tt)
  stood_or_since (a ∷ rest) b g m =
      ⊎_elim
      (λ v. ⊎_elim (λ u. inl (u.0, (u.1, v.1))) (λ u. inr (here u.0 u.1 v.1)) (stood_or_filed n b g x a v.0))
      (λ r.
      inr
      (record {
        before = a ∷ r.before;
        later = r.later;
        order = ap (λ (l : List Change). a ∷ l) r.order;
        accepted = r.accepted;
        kept = r.kept;
      }))
      (stood_or_since rest (after a b) (good_after n b g a) m)
    where
      here : a ≡ Change.file x → Accepted a b → NotWithdrawn x.number rest (after a b) → StandsSince b (a ∷ rest) x
      here e acc w =
          record {
            before = [];
            later = rest;
            order = ap (λ (d : Change). d ∷ rest) e;
            accepted = subst (λ (d : Change). Accepted d b) e acc;
            kept = subst (λ (d : Change). NotWithdrawn x.number rest (after d b)) e w;
          }

-- the newly opened book, of size n or, where n is refused, of size 0
newly_opened : (n : ℕ) → (m : ℕ) × (opened n ≡ book_of m [])
newly_opened n = go (outside_sizes n) refl
  where
    go : (b : Bool) → outside_sizes n ≡ b → (m : ℕ) × (opened n ≡ book_of m [])
    go true e = (0, rw e)
    go false e = (n, rw e)

opened_empty : (n : ℕ) (x : Notice) → Memᴰ x (standing (opened n)) → ⊥
opened_empty n x h = let o = newly_opened n in Memᴰ.not-nil (rw o.1 at h)

-- Demand 3, first half: what stands is what was accepted and not withdrawn since, for any size
pub stands_exactly : (n : ℕ) (changes : List Change) (x : Notice) → Memᴰ x (standing (run changes (opened n))) ↔ StandsSince (opened n) changes x
stands_exactly n changes x =
    let o = newly_opened n in
    let g : Good o.0 (opened n) = rw o.1 (opened_good o.0) in (
      (λ m. ⊎_elim (λ w. absurd (opened_empty n x w.0)) (λ r. r) (stood_or_since o.0 x changes (opened n) g m)),
      (λ s. since_stands o.0 x changes (opened n) g s),
    )

-- the book after a run, and "A book has room for 48 notices standing together."
run_good : (n : ℕ) (changes : List Change) → (m : ℕ) × Good m (run changes (opened n))
run_good n changes = let o = newly_opened n in (o.0, good_run o.0 changes (opened n) (rw o.1 (opened_good o.0)))

pub run_at_most_48 : (n : ℕ) (changes : List Change) → length (standing (run changes (opened n))) ≤ 48
run_at_most_48 n changes = (run_good n changes).1.fits

-- the notices that were accepted and not withdrawn since, as a list without a notice twice: for every run there is one
pub since_list : (n : ℕ) (changes : List Change) → (l : List Notice) × Distinct l × ((x : Notice) → Memᴰ x l ↔ StandsSince (opened n) changes x)
since_list n changes =
    let g = run_good n changes in
    (standing (run changes (opened n)), filed_distinct (unfit g.0) 0 (standing (run changes (opened n))) g.1.filed, stands_exactly n changes)

-- and so it is with what the link test answers
module _ (n : ℕ) (legal : outside_sizes n ≡ false) (changes : List Change) (i j c : ℕ) (stage : i < n) (label : j < size n) (code : c < 3) (r : Link) where
  abbrev end : Book
  end = run changes (opened n)

  end_good : Good n end
  end_good = good_run n changes (opened n) (rw (opened_is n legal) (opened_good n))

  same_size : end.n ≡ n
  same_size = ap (λ (b : Book). b.n) end_good.whole

  passed : Passed (link_checks end i j c)
  passed =
      passes (good_sound n end legal end_good)
      (passes (neither_of _ _ (ap (λ (k : ℕ). leb k i) same_size ∙ lt-leb n i stage) (ap (λ (k : ℕ). leb (size k) j) same_size ∙ lt-leb (size n) j label))
      (passes (le-ltb 2 c (omega arith)) none))

  -- the notices that stop the link are those of the run that name it
  named : (x : Notice) → StopsLink end.n (standing end) i j c x → NamesSince n changes i j c x
  named x w = ((stands_exactly n changes x).0 w.0, subst (λ (m : ℕ). names m x i j c ≡ true) same_size w.1)

  stopped : (x : Notice) → NamesSince n changes i j c x → StopsLink end.n (standing end) i j c x
  stopped x w = ((stands_exactly n changes x).1 w.0, subst (λ (m : ℕ). names m x i j c ≡ true) (sym same_size) w.1)

  -- "clear, or the lowest number of a notice that stops the link": of those that were accepted and not withdrawn since
  pub link_exactly : Tests end i j c r
      → ((r ≡ Ok None) × (NamedSince n changes i j c → ⊥)) ⊎ ((k : ℕ) × (r ≡ Ok (Some k)) × LowestNumber (NamesSince n changes i j c) k)
  link_exactly t = go (stopper end.n (standing end) i j c) refl
    where
      filed : Filed (unfit end.n) 0 (standing end)
      filed = subst (λ (m : ℕ). Filed (unfit m) 0 (standing end)) (sym same_size) end_good.filed

      go : (k : ℕ) → stopper end.n (standing end) i j c ≡ k
          → ((r ≡ Ok None) × (NamedSince n changes i j c → ⊥)) ⊎ ((k : ℕ) × (r ≡ Ok (Some k)) × LowestNumber (NamesSince n changes i j c) k)
      go zero e =
          let none = (stopper_none end.n i j c (standing end) filed).0 e in
          inl (t.clear passed none, λ w. let v = stopped w.0 w.1 in none (w.0, v.0, v.1))
      go (suc k) e =
          let low = (stopper_exactly end.n i j c (suc k) (standing end) filed).1 (e, omega arith) in
          inr (suc k, t.stopped passed (suc k) low, lowest_number_as named stopped low)

  -- "a link is stopped exactly where a notice names it that was accepted and has not been withdrawn since"
  pub stopped_exactly : Tests end i j c r → ((k : ℕ) × (r ≡ Ok (Some k))) ↔ NamedSince n changes i j c
  stopped_exactly t = (
    (λ v. ⊎_elim (λ w. let e = w.0 in let f = v.1 in absurd (zero_one cc)) (λ w. (w.2.notice, w.2.among)) (link_exactly t)),
    (λ v. ⊎_elim (λ w. absurd (w.1 v)) (λ w. (w.0, w.1)) (link_exactly t)),
  )

-- every change of a book of size 0 is refused
refused_size : (changes : List Change) → run changes (book_of 0 []) ≡ book_of 0 []
unfolding run
refused_size [] = refl
refused_size (Change.file x ∷ rest) = refused_size rest
refused_size (Change.withdraw k ∷ rest) = refused_size rest

-- Demand 3, second half: the book is that of a new book of that size into which only those notices were filed, in any order.
-- The two are equal, so no entry tells them apart, and each of those filings is accepted.
pub same_book : (n : ℕ) (changes : List Change) (l : List Notice) → Distinct l → ((x : Notice) → Memᴰ x l ↔ StandsSince (opened n) changes x)
    → (run (map Change.file l) (opened n) ≡ run changes (opened n)) × AllAccepted (map Change.file l) (opened n)
unfolding run AllAccepted
same_book n changes l d these = go (outside_sizes n) refl
  where
    within : (x : Notice) → Memᴰ x l → Memᴰ x (standing (run changes (opened n)))
    within x h = (stands_exactly n changes x).1 ((these x).0 h)

    none : (k : List Notice) → ((x : Notice) → Memᴰ x k → ⊥) → k ≡ []
    none [] h = refl
    none (y ∷ ys) h = absurd (h y (Memᴰ.head refl))

    go : (b : Bool) → outside_sizes n ≡ b → (run (map Change.file l) (opened n) ≡ run changes (opened n)) × AllAccepted (map Change.file l) (opened n)
    go true e =
        let o : opened n ≡ book_of 0 [] = rw e in
        let f : run changes (opened n) ≡ book_of 0 [] = ap (run changes) o ∙ refused_size changes in
        let z : l ≡ [] = none l (λ x h. Memᴰ.not-nil (rw f at (within x h))) in
        rw z (o ∙ sym f, tt)
    go false e =
        let o = opened_is n e in
        let g : Good n (run changes (opened n)) = good_run n changes (opened n) (rw o (opened_good n)) in
        let w = any_order n e (standing (run changes (opened n))) g.filed g.fits l d within (λ x h. (these x).1 ((stands_exactly n changes x).0 h)) in
        (ap (run (map Change.file l)) o ∙ w.0 ∙ sym g.whole, rw o w.1)

-- So for every run there are notices, none twice, that are those accepted and not withdrawn since; and whoever files them into a new book, in
-- whatever order, makes the book of the run.
pub since_filed : (n : ℕ) (changes : List Change)
    → (l : List Notice) × Distinct l × ((x : Notice) → Memᴰ x l ↔ StandsSince (opened n) changes x)
    × ((k : List Notice) → Distinct k → ((x : Notice) → Memᴰ x k ↔ Memᴰ x l)
    → (run (map Change.file k) (opened n) ≡ run changes (opened n)) × AllAccepted (map Change.file k) (opened n))
since_filed n changes =
    let w = since_list n changes in (
      w.0,
      w.1,
      w.2,
      λ k d same. same_book n changes k d (λ x. ((λ h. (w.2 x).0 ((same x).0 h)), (λ s. (same x).1 ((w.2 x).1 s)))),
    )
