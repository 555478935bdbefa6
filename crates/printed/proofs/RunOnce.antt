-- What a run prints is determined: no sheet has a second text.
use Rattle.sheet.specs.Format.{HeaderRead}
use Rattle.std.specs.Prelude.{Ok, Err}
use mathlib.Core.Path.{◌≡◌, refl, sym, ap, ap₂, ◌∙◌}
use mathlib.Core.Logic.{◌⊎◌, inl, inr}
use mathlib.Core.List.{List, [], ◌∷◌, ◌++◌}
use Prim.Native.Nat.{ℕ}
use lib.ListN.{length, drop}
use Rattle.table.specs.Numbers.{number_of}
use Rattle.table.specs.Reply.{Reply.accepted}
use Rattle.table.specs.Checks.{Given, Passed}
use Rattle.table.proofs.Numbers.{number_tells}
use Rattle.table.proofs.Checks.{given_or_passed, zero_one}
use Rattle.changes.proofs.After.{after_once}
use Rattle.sheet.specs.Entries.{ReadsHeader}
use Rattle.sheet.proofs.Sheets.{header_once}
use Rattle.printed.proofs.LineOnce.{line_at_once}
use Rattle.printed.specs.Text.{sheet_line}
use Rattle.printed.specs.Runs.{Lines, Lines.start, Lines.more, Prints, run_checks, ran_says, RunsBy, Runs, Ran}

-- a sheet has one text
pub lines_once : (sheet : List ℕ) (n k : ℕ) (x y : List ℕ) → Lines sheet n k x → Lines sheet n k y → x ≡ y
lines_once sheet n k x y start start = refl
lines_once sheet n k x y (more {k = j} {text = text₁} {next = next₁} {b = b₁} v made p) (more {text = text₂} {next = next₂} {b = b₂} w again q) =
    let e = after_once sheet n j b₁ b₂ made again in
    ap₂ (λ (s t : List ℕ). s ++ t) (lines_once sheet n j text₁ text₂ v w) (line_at_once n b₂ _ next₁ next₂ (rw e at p) q)

pub prints_once : (sheet : List ℕ) (h : HeaderRead) (x y : List ℕ) → Prints sheet h x → Prints sheet h y → x ≡ y
prints_once sheet (Ok head) x y p q =
    p.2 ∙ ap (λ (l : List ℕ). sheet_line head.n head.count ++ l) (lines_once sheet head.n head.count p.0 q.0 p.1 q.1) ∙ sym q.2
prints_once sheet (Err why) x y p q = p ∙ sym q

ran_tells : (a b : Ran) → ran_says a ≡ ran_says b → a ≡ b
ran_tells (Ok i) (Ok j) e = let z : i ≡ j = cc in ap Ok z
ran_tells (Ok i) (Err r) e = absurd (zero_one cc)
ran_tells (Err q) (Ok j) e = absurd (zero_one cc)
ran_tells (Err q) (Err r) e = let z : number_of q ≡ number_of r = cc in ap Err (number_tells q r z)

runs_by_once : (sheet : List ℕ) (h : HeaderRead) (before : List ℕ) (q r : Ran) (x y : List ℕ)
    → RunsBy sheet h before q x → RunsBy sheet h before r y → (q ≡ r) × (x ≡ y)
runs_by_once sheet h before q r x y v w = go (given_or_passed (run_checks h before))
  where
    go : ((k : ℕ) × Given k (run_checks h before)) ⊎ Passed (run_checks h before) → (q ≡ r) × (x ≡ y)
    go (inl g) =
        let a = v.refuses g.0 g.1 in
        let b = w.refuses g.0 g.1 in
        (ran_tells q r (a.0 ∙ sym b.0), a.1 ∙ sym b.1)
    go (inr p) =
        let a = v.prints p in
        let b = w.prints p in
        let e = prints_once sheet h a.0 b.0 a.1 b.1 in (
          ran_tells q r (a.2 ∙ ap (λ (t : List ℕ). accepted (length t ∷ [])) e ∙ sym b.2),
          a.3 ∙ ap (λ (t : List ℕ). t ++ drop (length t) before) e ∙ sym b.3,
        )

-- a run is by the header that its sheet has
pub run_by_header : (sheet : List ℕ) (h : HeaderRead) (before : List ℕ) (r : Ran) (after : List ℕ) → ReadsHeader sheet h → Runs sheet before r after → RunsBy sheet h before r after
run_by_header sheet h before r after reads w = rw (header_once sheet w.header h w.reads reads) at w.runs

-- a run has one answer, and leaves the lent memory in one way
pub run_once : (sheet before : List ℕ) (q r : Ran) (x y : List ℕ) → Runs sheet before q x → Runs sheet before r y → (q ≡ r) × (x ≡ y)
run_once sheet before q r x y v w = runs_by_once sheet w.header before q r x y (run_by_header sheet w.header before q x w.reads v) w.runs
