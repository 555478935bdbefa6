-- Demand 3's first half, over demand 2's routes, for each choice: after any run a walk is clear for the router exactly when no counted notice that was accepted and
-- not withdrawn since names one of its links.
use mathlib.Core.Path.{◌≡◌, sym, ap, ◌∙◌}
use mathlib.Core.Bool.{false}
use mathlib.Core.List.{List, Memᴰ}
use mathlib.Core.Logic.{◌↔◌}
use Prim.Native.Nat.{ℕ}
use lib.ListN.{get_or}
use Rattle.fabric.specs.Labels.{outside_sizes}
use Rattle.fabric.specs.Walks.{switch_at}
use Rattle.paths.specs.Clear.{Clear}
use Rattle.notices.specs.declared.Notice.{Notice}
use Rattle.notices.specs.Notices.{unfit}
use Rattle.notices.specs.Classes.{counts}
use Rattle.standing.specs.Rising.{Filed}
use Rattle.standing.proofs.Picked.{those_exactly}
use Rattle.standing.proofs.Members.{those_filed}
use Rattle.book.specs.declared.Book.{Book}
use Rattle.book.specs.Standing.{standing, stopper, stops_of, counted, counted_stops}
use Rattle.book.specs.Entries.{opened}
use Rattle.changes.specs.Runs.{Change, run}
use Rattle.changes.proofs.Changes.{Good}
use Rattle.changes.proofs.Reach.{good_run, opened_good, opened_is}
use Rattle.changes.proofs.Since.{stands_exactly}
use Rattle.book.proofs.Stoppers.{stopper_none}
use Rattle.promises.specs.Clearness.{CountsSince, UnnamedSince}

module _ (n : ℕ) (legal : outside_sizes n ≡ false) (changes : List Change) where
  abbrev end : Book
  end = run changes (opened n)

  pub good : Good n end
  good = good_run n changes (opened n) (rw (opened_is n legal) (opened_good n))

  -- the book's rule is that of its size
  pub rule : (i j c : ℕ) → stops_of end i j c ≡ stopper n (standing end) i j c
  rule i j c = ap (λ (m : ℕ). stopper m (standing end) i j c) (ap (λ (b : Book). b.n) good.whole)

  -- the notices of the run that a choice counts are those that count in the book
  pub counts_exactly : (choice : ℕ) (x : Notice) → Memᴰ x (counted choice end) ↔ CountsSince n choice changes x
  counts_exactly choice x =
      let o = those_exactly (counts choice) x (standing end) in
      let p = stands_exactly n changes x in
      ((λ m. let w = o.0 m in (p.0 w.0, w.1)), (λ w. o.1 (p.1 w.0, w.1)))

  pub counted_good : (choice : ℕ) → Filed (unfit n) 0 (counted choice end)
  counted_good choice = those_filed (counts choice) (unfit n) 0 (standing end) good.filed

  pub counted_rule : (choice i j c : ℕ) → counted_stops choice end i j c ≡ stopper n (counted choice end) i j c
  counted_rule choice i j c = ap (λ (m : ℕ). stopper m (counted choice end) i j c) (ap (λ (b : Book). b.n) good.whole)

  pub clear_since : (choice s : ℕ) (cs : List ℕ) → Clear n (counted_stops choice end) s cs ↔ UnnamedSince n choice changes s cs
  clear_since choice s cs = (
    (λ clear k h x since named.
        (stopper_none n k (switch_at n s cs k) (get_or cs k 0) (counted choice end) (counted_good choice)).0
        (sym (counted_rule choice k (switch_at n s cs k) (get_or cs k 0)) ∙ clear k h)
        (x, (counts_exactly choice x).1 since, named)),
    (λ none k h.
        counted_rule choice k (switch_at n s cs k) (get_or cs k 0)
        ∙ (stopper_none n k (switch_at n s cs k) (get_or cs k 0) (counted choice end) (counted_good choice)).1
        (λ w. none k h w.0 ((counts_exactly choice w.0).0 w.1) w.2)),
  )
