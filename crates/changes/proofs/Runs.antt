-- What the words for runs mean: one change after the other, each accepted in its turn, a number not withdrawn, a book that is produced.
use mathlib.Core.Path.{◌≡◌, refl, sym, ap, subst, ◌∙◌}
use mathlib.Core.List.{List, [], ◌∷◌, ◌++◌}
use mathlib.Core.Logic.{◌↔◌}
use Prim.Native.Nat.{ℕ, ◌≤◌}
use Rattle.table.proofs.Checks.{zero_one, accepted_passed, passed_accepts}
use Rattle.table.specs.Reply.{Reply, refused}
use Rattle.book.specs.declared.Book.{Book}
use Rattle.book.specs.Entries.{open_checks, opened}
use Rattle.changes.specs.Runs.{Change, after, Accepted, run, AllAccepted, Reachable, NotWithdrawn}
use Rattle.book.proofs.Entries.{open_lets_pass}

-- a run of nothing, of one change, and of some changes and then others
pub run_none : (b : Book) → run [] b ≡ b
unfolding run
run_none b = refl

pub run_one : (a : Change) (b : Book) → run (a ∷ []) b ≡ after a b
unfolding run
run_one a b = refl

pub run_on : (before later : List Change) (b : Book) → run (before ++ later) b ≡ run later (run before b)
unfolding run
run_on [] later b = refl
run_on (a ∷ rest) later b = run_on rest later (after a b)

-- all are accepted exactly when each is, made after those before it
pub all_accepted_each : (changes : List Change) (b : Book) → AllAccepted changes b
    ↔ ((before later : List Change) (a : Change) → changes ≡ before ++ a ∷ later → Accepted a (run before b))
unfolding run AllAccepted
all_accepted_each changes b = (each changes b, all changes b)
  where
    each : (cs : List Change) (d : Book) → AllAccepted cs d → (before later : List Change) (a : Change) → cs ≡ before ++ a ∷ later → Accepted a (run before d)
    each [] d w [] later a e = absurd (zero_one cc)
    each [] d w (x ∷ before) later a e = absurd (zero_one cc)
    each (c ∷ rest) d w [] later a e = let s : c ≡ a = cc in subst (λ (x : Change). Accepted x d) s w.0
    each (c ∷ rest) d w (x ∷ before) later a e =
        let s : c ≡ x = cc in
        let t : rest ≡ before ++ a ∷ later = cc in
        subst (λ (y : Change). Accepted a (run before (after y d))) s (each rest (after c d) w.1 before later a t)

    all : (cs : List Change) (d : Book) → ((before later : List Change) (a : Change) → cs ≡ before ++ a ∷ later → Accepted a (run before d)) → AllAccepted cs d
    all [] d h = tt
    all (c ∷ rest) d h = (h [] rest c refl, all rest (after c d) (λ before later a e. h (c ∷ before) later a (ap (λ (l : List Change). c ∷ l) e)))

-- a number is not withdrawn exactly when no withdrawal of it is accepted, made after the changes before it
pub not_withdrawn_each : (k : ℕ) (changes : List Change) (b : Book) → NotWithdrawn k changes b
    ↔ ((before later : List Change) → changes ≡ before ++ Change.withdraw k ∷ later → Accepted (Change.withdraw k) (run before b) → ⊥)
unfolding run NotWithdrawn
not_withdrawn_each k changes b = (each changes b, all changes b)
  where
    each : (cs : List Change) (d : Book) → NotWithdrawn k cs d
        → (before later : List Change) → cs ≡ before ++ Change.withdraw k ∷ later → Accepted (Change.withdraw k) (run before d) → ⊥
    each [] d w [] later e acc = absurd (zero_one cc)
    each [] d w (x ∷ before) later e acc = absurd (zero_one cc)
    each (c ∷ rest) d w [] later e acc = let s : c ≡ Change.withdraw k = cc in w.0 s (subst (λ (x : Change). Accepted x d) (sym s) acc)
    each (c ∷ rest) d w (x ∷ before) later e acc =
        let s : x ≡ c = cc in
        let t : rest ≡ before ++ Change.withdraw k ∷ later = cc in
        each rest (after c d) w.1 before later t (subst (λ (y : Change). Accepted (Change.withdraw k) (run before (after y d))) s acc)

    all : (cs : List Change) (d : Book)
        → ((before later : List Change) → cs ≡ before ++ Change.withdraw k ∷ later → Accepted (Change.withdraw k) (run before d) → ⊥) → NotWithdrawn k cs d
    all [] d h = tt
    all (c ∷ rest) d h = (
      (λ e acc. h [] rest (ap (λ (x : Change). x ∷ rest) e) (subst (λ (x : Change). Accepted x d) e acc)),
      all rest (after c d) (λ before later e acc. h (c ∷ before) later (ap (λ (l : List Change). c ∷ l) e) acc),
    )

-- the books that are produced: an opened one is, what an accepted change makes of one is, and no others are
pub opened_reachable : (n : ℕ) → 1 ≤ n → n ≤ 12 → Reachable (opened n)
unfolding run AllAccepted
opened_reachable n some few =
    record {
      n = n;
      opens = passed_accepts refused (Reply.accepted []) (open_checks n) ((open_lets_pass n).1 (some, few));
      changes = [];
      accepts = tt;
      makes = refl;
    }

pub accepted_reachable : (b : Book) (a : Change) → Reachable b → Accepted a b → Reachable (after a b)
unfolding run AllAccepted
accepted_reachable b a r acc =
    record {
      n = r.n;
      opens = r.opens;
      changes = r.changes ++ a ∷ [];
      accepts = on r.changes (opened r.n) r.accepts (subst (Accepted a) (sym r.makes) acc);
      makes = run_on r.changes (a ∷ []) (opened r.n) ∙ ap (run (a ∷ [])) r.makes ∙ run_one a b;
    }
  where
    on : (cs : List Change) (d : Book) → AllAccepted cs d → Accepted a (run cs d) → AllAccepted (cs ++ a ∷ []) d
    on [] d w h = (h, tt)
    on (c ∷ rest) d w h = (w.0, on rest (after c d) w.1 h)

pub reachable_only : (P : Book → Type 0) → ((n : ℕ) → 1 ≤ n → n ≤ 12 → P (opened n)) → ((b : Book) (a : Change) → P b → Accepted a b → P (after a b))
    → (b : Book) → Reachable b → P b
unfolding run AllAccepted
reachable_only P starts goes b r =
    let w = (open_lets_pass r.n).0 (accepted_passed (open_checks r.n) [] [] (sym r.opens)) in
    subst P r.makes (along r.changes (opened r.n) r.accepts (starts r.n w.0 w.1))
  where
    along : (cs : List Change) (d : Book) → AllAccepted cs d → P d → P (run cs d)
    along [] d w p = p
    along (c ∷ rest) d w p = along rest (after c d) w.1 (goes d c p w.0)
