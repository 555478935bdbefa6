-- docs/RULES.md, 'Routes': clear paths, the first of them, and the stage that is named where no path is clear. All of it is
-- said over any rule for which links are stopped.
use Rattle.std.specs.Prelude.{◌≡◌, List, ℕ, suc, ◌≤◌, ◌<◌, length, take, get_or}
use Rattle.fabric.specs.Labels.{bit, Agree}
use Rattle.fabric.specs.Walks.{Codes, Path, walked, switch_at}
use Rattle.scheme.specs.Scheme.{state_for}

-- for a stage, a switch and a code: 0 where the link is clear, and another number where it is stopped
abbrev pub Rule : Type 0
Rule = ℕ → ℕ → ℕ → ℕ

-- two rules under which the same links are stopped: they have the same clear walks, `alike_clear`, and which number stops a link does
-- not matter, `alike_by_any_number` (proofs/Alike.antt)
abbrev pub Alike : Rule → Rule → Type 0
Alike f g = (i j c : ℕ) → (f i j c ≡ 0 → g i j c ≡ 0) × (g i j c ≡ 0 → f i j c ≡ 0)

-- none of the links of a walk from s is stopped: link by link, `clear_none` and `clear_next` (proofs/Alike.antt)
abbrev pub Clear : ℕ → Rule → ℕ → List ℕ → Type 0
Clear n stops s cs = (k : ℕ) → k < length cs → stops k (switch_at n s cs k) (get_or cs k 0) ≡ 0

-- "A path of n links is clear where no link of it is stopped." It is a clear walk of n links to d: `path_onward`, and back
-- `onward_path` (proofs/Walks.antt).
pub record ClearPath (n : ℕ) (stops : Rule) (s d : ℕ) (cs : List ℕ) : Type 0 where
  pub path : Path n s d cs
  pub clear : Clear n stops s cs

-- "two paths are compared at the first stage where they differ, and the one with state 0 there goes before the other".
-- `before_exactly` says it by the state bits of the two normal tags, stage 0 first (proofs/Order.antt).
pub record ComesBefore (n s : ℕ) (cs ds : List ℕ) : Type 0 where
  pub stage : ℕ
  pub inside : stage < n
  pub together : take stage cs ≡ take stage ds
  pub parted : get_or cs stage 0 ≡ get_or ds stage 0 → ⊥
  pub zero_there : state_for (bit stage (switch_at n s cs stage)) (get_or cs stage 0) ≡ 0

-- "Of the paths from s to d that are clear one is the first": a clear path that no clear path comes before. `first_exactly` says that
-- it comes before every other clear path, `first_once` that there is at most one (proofs/Order.antt).
pub record First (n : ℕ) (stops : Rule) (s d : ℕ) (cs : List ℕ) : Type 0 where
  pub clear_path : ClearPath n stops s d cs
  pub first : (ds : List ℕ) → ClearPath n stops s d ds → ComesBefore n s ds cs → ⊥

-- a walk of k clear links out of s that ends at a label with d's low k bits. `lengthened` and `last` make it longer by a link and
-- take one off (proofs/Walks.antt).
pub record Onward (n : ℕ) (stops : Rule) (s d k : ℕ) (cs : List ℕ) : Type 0 where
  pub links : length cs ≡ k
  pub codes : Codes cs
  pub clear : Clear n stops s cs
  pub agrees : Agree k (walked n 0 s cs) d

-- "no walk of i+1 clear links out of s ends at a label with d's low i+1 bits". Then no path is clear: `none_clear`
-- (proofs/Named.antt).
abbrev pub NoneCross : ℕ → Rule → ℕ → ℕ → ℕ → Type 0
NoneCross n stops s d i = (cs : List ℕ) → Onward n stops s d (suc i) cs → ⊥

-- "a stage is named: the lowest i" that is so. `stage_once` says that there is at most one, `stage_named` that it is the first
-- stage that clear walks reach and do not cross (proofs/Named.antt).
pub record StageNamed (n : ℕ) (stops : Rule) (s d i : ℕ) : Type 0 where
  pub none : NoneCross n stops s d i
  pub least : (k : ℕ) → NoneCross n stops s d k → i ≤ k
