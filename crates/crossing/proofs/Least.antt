-- Over any rule, where crossing is stuck there is a lowest number that stops a way onward: the least of three.
use mathlib.Core.Path.{◌≡◌, refl, sym, ap, ◌∙◌}
use mathlib.Core.Bool.{Bool, true, false, cond}
use Prim.Native.Nat.{ℕ, zero, suc, ◌≤◌, ◌<◌}
use native.Mathlib.Omega.{arith}
use borrow.Author.Tests.{leb-true, leb-false}
use lib.Dec.{leb}
use Rattle.paths.specs.Clear.{Rule}
use Rattle.paths.specs.Ways.{Way, NumberNamed}
use Rattle.paths.proofs.Ways.{way_stopped}
use Rattle.frontier.specs.Stops.{has}
use Rattle.frontier.specs.WaysOnward.{way_from}
use Rattle.crossing.specs.Crossed.{StuckAt}

-- the lesser of two numbers, where 0 is none
unfoldable pub lesser_of : ℕ → ℕ → ℕ
lesser_of zero b = b
lesser_of (suc a) zero = suc a
lesser_of (suc a) (suc b) = cond (leb a b) (suc a) (suc b)

record Lesser (a b m : ℕ) : Type 0 where
  under_first : 1 ≤ a → (1 ≤ m) × (m ≤ a)
  under_second : 1 ≤ b → (1 ≤ m) × (m ≤ b)

lesser_under : (a b : ℕ) → Lesser a b (lesser_of a b)
unfolding lesser_of
lesser_under zero b = record { under_first = λ h. absurd (omega arith); under_second = λ h. (h, omega arith) }
lesser_under (suc a) zero = record { under_first = λ h. (h, omega arith); under_second = λ h. absurd (omega arith) }
lesser_under (suc a) (suc b) = go (leb a b) refl
  where
    go : (t : Bool) → leb a b ≡ t → Lesser (suc a) (suc b) (cond t (suc a) (suc b))
    go true e = let l = leb-true a b e in record { under_first = λ h. (omega arith, omega arith); under_second = λ h. (omega arith, omega arith) }
    go false e = let l = leb-false a b e in record { under_first = λ h. (omega arith, omega arith); under_second = λ h. (omega arith, omega arith) }

-- what holds of both holds of the lesser
lesser_is : (P : ℕ → Type 0) (a b : ℕ) → (1 ≤ a → P a) → (1 ≤ b → P b) → 1 ≤ lesser_of a b → P (lesser_of a b)
unfolding lesser_of
lesser_is P zero b p q h = q h
lesser_is P (suc a) zero p q h = p h
lesser_is P (suc a) (suc b) p q h = go (leb a b)
  where
    go : (t : Bool) → P (cond t (suc a) (suc b))
    go true = p (omega arith)
    go false = q (omega arith)

-- the number of each way, 0 for what is none, and the least of them
abbrev number_at : Rule → ℕ → ℕ → ℕ → ℕ → ℕ → ℕ → ℕ
number_at stops n s d i ways c = cond (has ways c) (stops i (way_from n s d i c) c) 0

abbrev pub least_on : Rule → ℕ → ℕ → ℕ → ℕ → ℕ → ℕ
least_on stops n s d i ways = lesser_of (number_at stops n s d i ways 0) (lesser_of (number_at stops n s d i ways 1) (number_at stops n s d i ways 2))

module _ (n : ℕ) (stops : Rule) (s d i ways : ℕ) (stuck : StuckAt n stops s d i ways) where
  abbrev at : ℕ → ℕ
  at c = number_at stops n s d i ways c

  -- a number other than 0 is that of a way
  named : (c : ℕ) → c < 3 → 1 ≤ at c → Way n stops s d i (way_from n s d i c) c × (stops i (way_from n s d i c) c ≡ at c)
  named c h some = go (has ways c) refl some
    where
      go : (t : Bool) → has ways c ≡ t → 1 ≤ cond t (stops i (way_from n s d i c) c) 0
          → Way n stops s d i (way_from n s d i c) c × (stops i (way_from n s d i c) c ≡ cond t (stops i (way_from n s d i c) c) 0)
      go true e l = ((stuck.onward (way_from n s d i c) c).1 (h, e, refl), refl)
      go false e l = absurd (omega arith)

  -- and every way has its number there
  numbered : (j c : ℕ) → Way n stops s d i j c → (c < 3) × (at c ≡ stops i j c)
  numbered j c w =
      let v = (stuck.onward j c).0 w in
      (v.0, ap (λ (t : Bool). cond t (stops i (way_from n s d i c) c) 0) v.1 ∙ ap (λ (x : ℕ). stops i x c) (sym v.2))

  under : (c : ℕ) → c < 3 → 1 ≤ at c → (1 ≤ least_on stops n s d i ways) × (least_on stops n s d i ways ≤ at c)
  under zero h some = (lesser_under (at 0) (lesser_of (at 1) (at 2))).under_first some
  under (suc zero) h some =
      let inner = (lesser_under (at 1) (at 2)).under_first some in
      let outer = (lesser_under (at 0) (lesser_of (at 1) (at 2))).under_second inner.0 in
      (outer.0, omega arith)
  under (suc (suc zero)) h some =
      let inner = (lesser_under (at 1) (at 2)).under_second some in
      let outer = (lesser_under (at 0) (lesser_of (at 1) (at 2))).under_second inner.0 in
      (outer.0, omega arith)
  under (suc (suc (suc c))) h some = absurd (omega arith)

  stops_a_way : (j c : ℕ) → Way n stops s d i j c → 1 ≤ stops i j c
  stops_a_way = way_stopped n stops s d i stuck.inside stuck.named.none

  -- some way has the number k
  record OfAWay (k : ℕ) : Type 0 where
    switch : ℕ
    code : ℕ
    way : Way n stops s d i switch code
    stopped : stops i switch code ≡ k

  of_a_way : (c : ℕ) → c < 3 → 1 ≤ at c → OfAWay (at c)
  of_a_way c h some = let w = named c h some in record { switch = way_from n s d i c; code = c; way = w.0; stopped = w.1 }

  pub stuck_number : NumberNamed n stops s d i (least_on stops n s d i ways)
  stuck_number =
      let first = stuck.some in
      let number = numbered first.0 first.1 first.2 in
      let held = stops_a_way first.0 first.1 first.2 in
      let e = number.1 in
      let some = (under first.1 number.0 (omega arith)).0 in
      let found =
      lesser_is OfAWay (at 0) (lesser_of (at 1) (at 2)) (of_a_way 0 (omega arith)) (lesser_is OfAWay (at 1) (at 2) (of_a_way 1 (omega arith)) (of_a_way 2 (omega arith))) some in
      record {
        switch = found.switch;
        code = found.code;
        way = found.way;
        stopped = found.stopped;
        some = some;
        least = λ j c w l. let v = numbered j c w in let f = v.1 in let u = (under c v.0 (omega arith)).1 in omega arith;
      }
