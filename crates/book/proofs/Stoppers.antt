-- What stops a link: the stopper is 0 exactly where no standing notice names the link, and otherwise the lowest number of
-- one that does. "A link may be named by more than one notice." It is so of any test of a notice (standing,
-- proofs/Lowest).
use mathlib.Core.Path.{◌≡◌}
use mathlib.Core.Bool.{Bool, true}
use mathlib.Core.List.{List, Memᴰ}
use mathlib.Core.Logic.{◌↔◌}
use Prim.Native.Nat.{ℕ, ◌≤◌, ◌<◌}
use Rattle.notices.specs.declared.Notice.{Notice}
use Rattle.notices.specs.Notices.{names, unfit}
use Rattle.standing.specs.Rising.{Filed}
use Rattle.standing.specs.Picked.{LowestNumber}
use Rattle.standing.proofs.Lowest.{lowest_picks, lowest_least, lowest_exactly, lowest_none, lowest_some}
use Rattle.book.specs.Standing.{StopsLink, Stopped, stopper}

module _ (n i j c : ℕ) where
  abbrev naming : Notice → Bool
  naming x = names n x i j c

  -- a number other than 0 is that of a notice that names the link
  pub stopper_names : (l : List Notice) → (stopper n l i j c ≡ 0 → ⊥) → (x : Notice) × Memᴰ x l × (names n x i j c ≡ true) × (x.number ≡ stopper n l i j c)
  stopper_names = lowest_picks naming

  -- no notice that names the link has a lower number
  pub stopper_lowest : (m : ℕ) (l : List Notice) (x : Notice) → Filed (unfit n) m l → Memᴰ x l → names n x i j c ≡ true
      → (m < stopper n l i j c) × (stopper n l i j c ≤ x.number)
  stopper_lowest = lowest_least naming (unfit n)

  -- it is the lowest number among those that name the link, wherever there is one
  pub stopper_exactly : (k : ℕ) (l : List Notice) → Filed (unfit n) 0 l → LowestNumber (StopsLink n l i j c) k ↔ ((stopper n l i j c ≡ k) × (1 ≤ k))
  stopper_exactly = lowest_exactly naming (unfit n)

  -- 0 where no standing notice names the link, and only there
  pub stopper_none : (l : List Notice) → Filed (unfit n) 0 l → (stopper n l i j c ≡ 0) ↔ (Stopped n l i j c → ⊥)
  stopper_none = lowest_none naming (unfit n)

  pub stopper_some : (l : List Notice) → Filed (unfit n) 0 l → (stopper n l i j c ≡ 0 → ⊥) ↔ Stopped n l i j c
  stopper_some = lowest_some naming (unfit n)
