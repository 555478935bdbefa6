-- Laws of the frontier's bookkeeping: which case holds when, and that its numbers fit.
use Rattle.std.proofs.Common.{◌≡◌, ℕ, suc, ◌+◌, ◌-◌, ◌*◌, ◌^◌, ◌<◌, ◌≤◌, Bool, true, false, cond, leb, sym, ap, ◌∙◌, subst, zero-le, pow-suc, arith, pow_pos, pow_mono, le-leb, min}
use borrow.Author.Tests.{lt-leb}
use native.Mathlib.Decide.{dec_le}
use Rattle.fabric.specs.Labels.{size}
use Rattle.frontier.specs.declared.Front.{Front}
use Rattle.frontier.specs.Stops.{StopsAt}
use Rattle.frontier.specs.Frontier.{Small, lost_by, through, lesser, advanced}

pub few_labels : (n : ℕ) → n ≤ 12 → size n ≤ 4096
few_labels n h = pow_mono {j = 12} h

pub lost_small : (n : ℕ) (stopped : Bool) → n ≤ 12 → lost_by n stopped ≤ 4096
lost_small n true h = few_labels n h
lost_small n false h = omega arith

pub through_of : (n p : ℕ) (stop : Bool) (state : ℕ) {r : ℕ} → r ≡ lost_by n stop → p * 2 + state + r ≡ through n p stop state
unfolding through
through_of n p stop state e = ap (λ (x : ℕ). p * 2 + state + x) e

module _ (p q : ℕ) where
  pub lesser_earlier : p ≤ q → p ≡ lesser p q
  unfolding lesser
  lesser_earlier l = sym (ap (λ (b : Bool). cond b p q) (le-leb p q l))

  pub lesser_later : q < p → q ≡ lesser p q
  unfolding lesser
  lesser_later l = sym (ap (λ (b : Bool). cond b p q) (lt-leb p q l))

  -- std's `min` is the lesser
  pub min_lesser : min p q ≡ lesser p q
  min_lesser = go (dec_le p q)
    where
      go : Dec (p ≤ q) → min p q ≡ lesser p q
      go (yes l) = let m : min p q ≡ p = omega arith in m ∙ lesser_earlier l
      go (no l) = let m : min p q ≡ q = omega arith in m ∙ lesser_later (omega arith)

  pub lesser_min : lesser p q ≡ min p q
  lesser_min = sym min_lesser

-- in column 0 the source is reached
pub start_reached : (n : ℕ) → lesser 0 (size n) < size n
start_reached n = subst (λ (x : ℕ). x < size n) (lesser_earlier 0 (size n) zero-le) (pow_pos n)

-- what holds of both holds of the one that is chosen
chosen_has : (P : ℕ → Type 0) (b : Bool) {p q : ℕ} → P p → P q → P (cond b p q)
chosen_has P true x y = x
chosen_has P false x y = y

lesser_has : (P : ℕ → Type 0) {p q : ℕ} → P p → P q → P (lesser p q)
unfolding lesser
lesser_has P {p} {q} x y = chosen_has P (leb p q) x y

-- the frontier one stage on, from what its links give: where the high switch goes straight, and where the low one does
module _ (n t : ℕ) (x : StopsAt) (f : Front) {right : Bool} {stays forks straight up down met : ℕ} {a b m : Bool} (ea : a ≡ x.straight) (eb : b ≡ x.plus) (em : m ≡ x.minus)
    (es : stays ≡ cond right f.high f.low) (ef : forks ≡ cond right f.low f.high)
    (ek : straight ≡ through n stays a 0) (eu : up ≡ through n forks b (1 - t)) (ed : down ≡ through n forks m t) where
  pub advanced_high : right ≡ true → met ≡ min straight up → ◌≡◌ {A = Front} (record { high = met; low = down }) (advanced n right t x f)
  unfolding advanced
  advanced_high e r = rw (r, min_lesser, ek, eu, ed, es, ef, ea, eb, em, e)

  pub advanced_low : right ≡ false → met ≡ min straight down → ◌≡◌ {A = Front} (record { high = up; low = met }) (advanced n right t x f)
  unfolding advanced
  advanced_low e r = rw (r, min_lesser, ek, eu, ed, es, ef, ea, eb, em, e)

-- the numbers of a frontier in column i fit, and so do those one stage on
module _ (n i : ℕ) (few : n ≤ 12) where
  through_small : (p : ℕ) (stop : Bool) (state : ℕ) → state < 2 → Small i p → Small (suc i) (through n p stop state)
  unfolding through
  through_small p stop state h w =
      let l = lost_small n stop few in
      let d : 2 ^ (suc i + 14) ≡ 2 ^ (i + 14) * 2 = ap (λ (m : ℕ). 2 ^ m) {x = suc i + 14} {y = suc (i + 14)} (omega arith) ∙ pow-suc 2 (i + 14) in
      omega arith

  pub advanced_small : (right : Bool) (t : ℕ) (x : StopsAt) (f : Front) → t < 2 → Small i f.high → Small i f.low
      → Small (suc i) (advanced n right t x f).high × Small (suc i) (advanced n right t x f).low
  unfolding advanced
  advanced_small right t x f h a b =
      let S : ℕ → Type 0 = Small (suc i) in
      let stays = chosen_has (Small i) right a b in
      let forks = chosen_has (Small i) right b a in
      let straight = through_small _ x.straight 0 (omega arith) stays in
      let up = through_small _ x.plus (1 - t) (omega arith) forks in
      let down = through_small _ x.minus t h forks in
      let other = chosen_has S right up down in
      let met = lesser_has S straight other in
      (chosen_has S right met up, chosen_has S right down met)

pub small_fits : (i p : ℕ) → i < 12 → Small i p → p < 33554432
small_fits i p h w = let m : 2 ^ (i + 14) ≤ 2 ^ 25 = pow_mono {j = 25} (omega arith) in omega arith
