-- docs/RULES.md, 'Fabric' and 'Tags and steps': "Links lie in stages, numbered from 0 to n-1. Switches stand in
-- columns, numbered from 0 to n"; "Steps are a row of n codes, that of stage 0 in front." The theorems named here
-- stand in proofs/Stages.antt.
use Rattle.std.specs.Prelude.{◌≡◌, ℕ, suc, List, [], ◌∷◌, length, take}
use Rattle.fabric.specs.Links.{Code, lands}

-- each of them is a code: `codes_each`
abbrev pub Codes : List ℕ → Type 0
Codes [] = Unit
Codes (c ∷ cs) = Code c × Codes cs

-- the steps of a path: n codes
pub record Steps (n : ℕ) (cs : List ℕ) : Type 0 where
  pub stages : length cs ≡ n
  pub codes : Codes cs

-- where a walk ends that leaves switch j of column i by links of these codes, a stage each: `walked_on`
unfoldable pub walked : ℕ → ℕ → ℕ → List ℕ → ℕ
walked n i j [] = j
walked n i j (c ∷ cs) = walked n (suc i) (lands n i c j) cs

-- the switch in column k of a walk that leaves source s: `switch_next`
abbrev pub switch_at : ℕ → ℕ → List ℕ → ℕ → ℕ
switch_at n s cs k = walked n 0 s (take k cs)

-- a path from s to d: n links, from column 0 to column n. `path_exactly` says that it lies at s in column 0 and at d in column n;
-- `straight_exactly`, "From a label to itself only the straight path leads", says both that it is a path and that there is no
-- other.
pub record Path (n s d : ℕ) (cs : List ℕ) : Type 0 where
  pub steps : Steps n cs
  pub arrives : walked n 0 s cs ≡ d
