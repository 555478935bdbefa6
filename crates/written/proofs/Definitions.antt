-- What the definitions say, before anything is proved with them: the order of checks, and the sheet of the worked example byte by byte.
use mathlib.Core.Path.{◌≡◌, refl}
use mathlib.Core.Bool.{Bool, true, false}
use mathlib.Core.Logic.{◌⊎◌, inl, inr, ◌↔◌}
use mathlib.Core.List.{List, [], ◌∷◌, ◌++◌, Memᴰ}
use Prim.Native.Nat.{ℕ, ◌≤◌}
use native.Mathlib.Omega.{arith}
use lib.Count.{ones}
use Rattle.table.specs.Checks.{numbers}
use Rattle.table.proofs.Checks.{zero_one}
use Rattle.notices.specs.declared.Notice.{Notice}
use Rattle.notices.specs.Classes.{busy}
use Rattle.notices.proofs.Classes.{busy_exactly}
use Rattle.notices.specs.declared.Target.TheVariants.{Links, Switch, Pattern}
use Rattle.standing.specs.Picked.{some, those}
use Rattle.standing.specs.Rising.{insert, in_places, misfiled, littered}
use Rattle.standing.proofs.Picked.{some_exactly}
use Rattle.actions.specs.Rows.{rows}
use Rattle.actions.proofs.Laid.{two_lengths}
use Rattle.book.specs.declared.Book.{Book}
use Rattle.book.specs.Standing.{book_of}
use Rattle.book.specs.Entries.{opened, open_checks, book_checks}
use Rattle.changes.specs.Runs.{Change, change_checks, changed, run}
use Rattle.written.specs.Sheets.{version_for, each_for, sheet_of, most_written, room_checks}

-- "The numbers are 16, then 13."
pub write_order : (b : Book) (memory : List ℕ) → numbers (room_checks (book_checks b) b memory) ≡ 16 ∷ 13 ∷ []
write_order b memory = refl

-- for a host 13 comes last too: open 1, 13; file 16, 3, 4, 5, 6, 7, 8, 13; withdraw 16, 3, 9, 13
pub open_sheet_order : (n : ℕ) (memory : List ℕ) → numbers (room_checks (open_checks n) (book_of n []) memory) ≡ 1 ∷ 13 ∷ []
open_sheet_order n memory = refl

pub file_sheet_order : (b : Book) (x : Notice) (memory : List ℕ) → numbers (room_checks (change_checks (Change.file x) b) (changed (Change.file x) b) memory) ≡ 16 ∷ 3 ∷ 4 ∷ 5 ∷ 6 ∷ 7 ∷ 8 ∷ 13 ∷ []
file_sheet_order b x memory = refl

pub withdraw_sheet_order : (b : Book) (k : ℕ) (memory : List ℕ) → numbers (room_checks (change_checks (Change.withdraw k) b) (changed (Change.withdraw k) b) memory) ≡ 16 ∷ 3 ∷ 9 ∷ 13 ∷ []
withdraw_sheet_order b k memory = refl

-- the filings and withdrawals of the worked example
abbrev example : List Change
example =
    Change.file (record { number = 7; target = Links 0 1 4; class = 0 })
    ∷ Change.file (record { number = 8; target = Pattern 0 1 3 4; class = 0 })
    ∷ Change.file (record { number = 7; target = Switch 1 2; class = 0 })
    ∷ Change.withdraw 7
    ∷ Change.file (record { number = 9; target = Pattern 0 1 1 7; class = 0 })
    ∷ Change.file (record { number = 10; target = Switch 1 2; class = 0 })
    ∷ Change.withdraw 9
    ∷ []

-- the sheet of the book that it leaves: n = 3, two filings
pub sheet_spelled :
    sheet_of (run example (opened 3))
    ≡ 70 ∷ 83 ∷ 72 ∷ 0 ∷ 1 ∷ 3 ∷ 0 ∷ 2
    ∷ 1 ∷ 0 ∷ 8 ∷ 3 ∷ 0 ∷ 0 ∷ 1 ∷ 0 ∷ 3 ∷ 4
    ∷ 1 ∷ 0 ∷ 10 ∷ 2 ∷ 1 ∷ 0 ∷ 2 ∷ 0 ∷ 0 ∷ 0
    ∷ []
unfolding run insert in_places misfiled rows ones
sheet_spelled = refl

-- the same with notice 10 busy: version 2, and the class of each after it
pub busy_sheet_spelled :
    sheet_of (run (example ++ Change.withdraw 10 ∷ Change.file (record { number = 10; target = Switch 1 2; class = 1 }) ∷ []) (opened 3))
    ≡ 70 ∷ 83 ∷ 72 ∷ 0 ∷ 2 ∷ 3 ∷ 0 ∷ 2
    ∷ 1 ∷ 0 ∷ 8 ∷ 3 ∷ 0 ∷ 0 ∷ 1 ∷ 0 ∷ 3 ∷ 4 ∷ 0
    ∷ 1 ∷ 0 ∷ 10 ∷ 2 ∷ 1 ∷ 0 ∷ 2 ∷ 0 ∷ 0 ∷ 0 ∷ 1
    ∷ []
unfolding run insert in_places misfiled rows ones
busy_sheet_spelled = refl

-- "The sheet has version 2 where some notice that stands is busy", and version 1 where none does; there is no third
module _ (l : List Notice) where
  two_versions : (b : Bool) → some busy l ≡ b → ((version_for l ≡ 1) × (some busy l ≡ false)) ⊎ ((version_for l ≡ 2) × (some busy l ≡ true))
  two_versions true e = inr (rw e, e)
  two_versions false e = inl (rw e, e)

  pub by_version : ((version_for l ≡ 1) × (some busy l ≡ false)) ⊎ ((version_for l ≡ 2) × (some busy l ≡ true))
  by_version = two_versions (some busy l) refl

  pub version_2_exactly : (version_for l ≡ 2) ↔ ((x : Notice) × Memᴰ x l × (x.class ≡ 1))
  version_2_exactly = (
    (λ e. there e by_version),
    (λ w. rw ((some_exactly busy l).1 (w.0, w.1, (busy_exactly w.0).1 w.2))),
  )
    where
      there : version_for l ≡ 2 → ((version_for l ≡ 1) × (some busy l ≡ false)) ⊎ ((version_for l ≡ 2) × (some busy l ≡ true)) → (x : Notice) × Memᴰ x l × (x.class ≡ 1)
      there e (inl w) = let f = w.0 in absurd (zero_one (omega arith))
      there e (inr w) = let s = (some_exactly busy l).0 w.1 in (s.0, s.1, (busy_exactly s.0).0 s.2)

  pub version_1_exactly : (version_for l ≡ 1) ↔ ((x : Notice) → Memᴰ x l → x.class ≡ 1 → ⊥)
  version_1_exactly = (
    (λ e x m c. let f = version_2_exactly.1 (x, m, c) in zero_one (omega arith)),
    (λ h. back h by_version),
  )
    where
      back : ((x : Notice) → Memᴰ x l → x.class ≡ 1 → ⊥) → ((version_for l ≡ 1) × (some busy l ≡ false)) ⊎ ((version_for l ≡ 2) × (some busy l ≡ true)) → version_for l ≡ 1
      back h (inl w) = w.0
      back h (inr w) = let s = version_2_exactly.0 w.0 in absurd (h s.0 s.1 s.2)

  pub each_within : each_for l ≤ 11
  each_within = go (two_lengths (version_for l))
    where
      go : (each_for l ≡ 10) ⊎ (each_for l ≡ 11) → each_for l ≤ 11
      go (inl e) = omega arith
      go (inr e) = omega arith

-- 8 bytes and eleven for each of 48 notices
pub most_spelled : most_written ≡ 536
most_spelled = refl
