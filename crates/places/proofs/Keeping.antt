-- The places with a notice put in at its place, and with one taken out, are those of `insert` and of `without`.
use mathlib.Core.Path.{◌≡◌, sym, ap, ap₂, ◌∙◌}
use mathlib.Core.Bool.{Bool, true}
use mathlib.Core.List.{List, ◌∷◌, ◌++◌}
use Prim.Native.Nat.{ℕ, suc, ◌+◌, ◌-◌, ◌≤◌, ◌<◌}
use native.Mathlib.Omega.{arith}
use lib.ListN.{length, take, drop, set, replicate, take-append-drop}
use lib.Seq.{paste, length-take-le}
use Rattle.notices.specs.declared.Notice.{Notice}
use Rattle.standing.specs.Rising.{filler, in_places, stands, insert, without, Filed}
use Rattle.standing.proofs.Members.{insert_length}
use Rattle.places.specs.Places.{place_of}
use Rattle.places.proofs.Gaps.{opens_gap, closes_gap}
use Rattle.places.proofs.Placing.{insert_at, remove_at, place_le, place_in_use, without_at, insert_in_place, without_shorter}

module _ (count : ℕ) (notices : List Notice) (rest : drop count notices ≡ replicate (48 - count) filler) where
  -- the notices in use, and the filler after them
  pub parted : notices ≡ take count notices ++ replicate (48 - count) filler
  parted = sym (take-append-drop count notices) ∙ ap (λ (r : List Notice). take count notices ++ r) rest

  pub puts_in : length notices ≡ 48 → (x : Notice) (p : ℕ) → p ≡ place_of x.number (take count notices) → count < 48
      → set (paste notices (p + 1) (drop p notices) (count - p)) p x ≡ in_places (insert x (take count notices))
  unfolding in_places
  puts_in full x p at h =
      let s : List Notice = take count notices in
      let r : List Notice = replicate (47 - count) filler in
      let l : length s ≡ count = length-take-le count notices (omega arith) in
      let q = place_le x.number s in
      let e : notices ≡ s ++ filler ∷ r = parted ∙ ap (λ (m : ℕ). s ++ replicate m filler) {x = 48 - count} {y = suc (47 - count)} (omega arith) in
      let i : insert x s ≡ insert_at p x s = insert_in_place x s ∙ ap (λ (m : ℕ). insert_at m x s) (sym at) in
      let c : length (insert x s) ≡ suc (length s) = insert_length x s in
      ap₂ (λ (ns : List Notice) (m : ℕ). set (paste ns (p + 1) (drop p ns) (m - p)) p x) e (sym l)
      ∙ opens_gap s filler r x p (omega arith)
      ∙ ap (λ (k : List Notice). k ++ r) (sym i)
      ∙ ap (λ (m : ℕ). insert x s ++ replicate m filler) {x = 47 - count} {y = 48 - length (insert x s)} (omega arith)

  pub takes_out : length notices ≡ 48 → (bad : Notice → Bool) (k p : ℕ) → p ≡ place_of k (take count notices) → count ≤ 48 → stands k (take count notices) ≡ true
      → Filed bad 0 (take count notices)
      → set (paste notices p (drop (p + 1) notices) (count - p - 1)) (count - 1) filler ≡ in_places (without k (take count notices))
  unfolding in_places
  takes_out full bad k p at fits h f =
      let s : List Notice = take count notices in
      let r : List Notice = replicate (48 - count) filler in
      let l : length s ≡ count = length-take-le count notices (omega arith) in
      let q = place_in_use count notices k fits full h in
      let i : without k s ≡ remove_at p s = without_at k bad 0 s f h ∙ ap (λ (m : ℕ). remove_at m s) (sym at) in
      let c : suc (length (without k s)) ≡ length s = without_shorter k bad s f h in
      ap₂ (λ (ns : List Notice) (m : ℕ). set (paste ns p (drop (p + 1) ns) (m - p - 1)) (m - 1) filler) parted (sym l)
      ∙ closes_gap s r filler p (omega arith)
      ∙ ap (λ (z : List Notice). z ++ filler ∷ r) (sym i)
      ∙ ap (λ (m : ℕ). without k s ++ replicate m filler) {x = suc (48 - count)} {y = 48 - length (without k s)} (omega arith)
