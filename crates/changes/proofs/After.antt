-- The book after a sheet's first actions: how it comes about, that there is one, and that it is sound.
use Rattle.std.specs.Prelude.{Ok}
use Rattle.actions.specs.Format.{ActionRead}
use mathlib.Core.Path.{◌≡◌, refl, sym, ap, ap₂, subst, ◌∙◌}
use mathlib.Core.Bool.{false}
use mathlib.Core.List.{List, [], ◌++◌}
use Prim.Native.Nat.{ℕ, suc, ◌≤◌}
use lib.ListN.{length}
use Rattle.fabric.specs.Labels.{outside_sizes}
use Rattle.notices.specs.declared.Notice.{Notice}
use Rattle.book.specs.declared.Book.{Book}
use Rattle.book.specs.declared.Kept.{Kept}
use Rattle.book.specs.Standing.{standing, book_of, Sound}
use Rattle.book.specs.Entries.{opened, Opens, Files, Withdraws}
use Rattle.book.proofs.Filings.{standing_of, size_passes}
use Rattle.actions.specs.declared.Action.{Action}
use Rattle.actions.specs.Entries.{ReadsAction}
use Rattle.actions.proofs.Actions.{action_once}
use Rattle.sheet.specs.Entries.{part_of}
use Rattle.changes.specs.Runs.{Change, run}
use Rattle.changes.specs.After.{changes_of, Changes, Changes.none, Changes.more, After}
use Rattle.changes.proofs.Changes.{opens_leaves, files_change, withdraws_change, Good}
use Rattle.changes.proofs.Sounds.{good_is_sound, good_places}
use Rattle.changes.proofs.Reach.{good_run, opened_good, opened_is}
use Rattle.changes.proofs.Since.{run_on}

-- a sheet holds one list of changes
pub changes_once : (sheet : List ℕ) (k : ℕ) (a b : List Change) → Changes sheet k a → Changes sheet k b → a ≡ b
changes_once sheet k a b none none = refl
changes_once sheet k a b (more {k = j} {changes = a₁} {a = x} p r) (more {changes = b₁} {a = y} q s) =
    ap₂ (λ (l m : List Change). l ++ m) (changes_once sheet j a₁ b₁ p q) (ap changes_of (action_once (part_of sheet j) x y r s))

-- and makes one book
pub after_once : (sheet : List ℕ) (n k : ℕ) (b c : Book) → After sheet n k b → After sheet n k c → b ≡ c
after_once sheet n k b c v w =
    v.makes ∙ ap (λ (l : List Change). run l (opened n)) (changes_once sheet k v.changes w.changes v.held w.held) ∙ sym w.makes

-- before the first action the book is the opened one, which is empty
pub after_none : (sheet : List ℕ) (n : ℕ) (r : Kept) → Opens n r → After sheet n 0 r.book
unfolding run
after_none sheet n r o = record { changes = []; held = none; makes = opens_leaves n r o }

pub starts_empty : (sheet : List ℕ) (n : ℕ) (b : Book) → outside_sizes n ≡ false → After sheet n 0 b → (b.n ≡ n) × (standing b ≡ [])
unfolding run
starts_empty sheet n b fits w =
    let e : b ≡ book_of n [] = w.makes ∙ ap (λ (l : List Change). run l (opened n)) (changes_once sheet 0 w.changes [] w.held none) ∙ opened_is n fits in
    (ap (λ (c : Book). c.n) e, ap standing e ∙ standing_of n [])

-- an action more: its changes are made
pub after_more : {sheet : List ℕ} {n k : ℕ} {b : Book} {a : ActionRead} → After sheet n k b → ReadsAction (part_of sheet k) a → After sheet n (suc k) (run (changes_of a) b)
after_more {n = n} {a = a} w r =
    record {
      changes = w.changes ++ changes_of a;
      held = more w.held r;
      makes = ap (run (changes_of a)) w.makes ∙ sym (run_on w.changes (changes_of a) (opened n));
    }

-- what file and withdraw leave is what the action's changes leave
pub files_leave : (b : Book) (x : Notice) (r : Kept) → Files b x r → r.book ≡ run (changes_of (Ok (Action.File x))) b
unfolding run
files_leave b x r p = (files_change b x r p).1

pub withdraws_leave : (b : Book) (k : ℕ) (r : Kept) → Withdraws b k r → r.book ≡ run (changes_of (Ok (Action.Withdraw k))) b
unfolding run
withdraws_leave b k r p = (withdraws_change b k r p).1

-- a route and a layout fault leave the book as it is
pub nothing_changes : (b : Book) → b ≡ run [] b
unfolding run
nothing_changes b = refl

after_good : {sheet : List ℕ} {n k : ℕ} {b : Book} → 1 ≤ n → n ≤ 12 → After sheet n k b → Good n b
after_good {n = n} some few w =
    let start : Good n (opened n) = subst (Good n) (sym (opened_is n (size_passes n some few))) (opened_good n) in
    subst (Good n) (sym w.makes) (good_run n w.changes (opened n) start)

-- the book of a sheet is one that 16 is not given for
pub after_sound : {sheet : List ℕ} {n k : ℕ} {b : Book} → 1 ≤ n → n ≤ 12 → After sheet n k b → Sound b
after_sound {n = n} {b = b} some few w = good_is_sound n b some few (after_good some few w)

-- and has all its places
pub after_places : {sheet : List ℕ} {n k : ℕ} {b : Book} → 1 ≤ n → n ≤ 12 → After sheet n k b → length b.notices ≡ 48
after_places {n = n} {b = b} some few w = good_places n b (after_good some few w)
