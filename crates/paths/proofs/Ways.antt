-- The ways onward at a stage: where they are, which there are, and the one lowest number that stops any of them.
use mathlib.Core.Path.{◌≡◌, refl, sym, ap, subst, ◌∙◌}
use mathlib.Core.List.{List, [], ◌∷◌, ◌++◌}
use mathlib.Core.Logic.{◌↔◌}
use Prim.Native.Nat.{ℕ, suc, ◌≤◌, ◌<◌}
use native.Mathlib.Decide.{ℕ_discrete}
use native.Mathlib.Omega.{arith}
use Rattle.fabric.specs.Labels.{bit, Agree}
use Rattle.fabric.specs.Links.{Code, lands}
use Rattle.fabric.specs.Walks.{walked}
use Rattle.fabric.proofs.Bits.{agree_less}
use Rattle.fabric.proofs.Links.{low_bits_stay, toward_straight, toward_nonstraight, straight_toward, nonstraight_toward}
use Rattle.paths.specs.Clear.{Rule, Onward, NoneCross}
use Rattle.paths.specs.Ways.{WayBy, Way, NumberNamed}
use Rattle.paths.proofs.Walks.{lengthened, walked_snoc}

-- a way where walks are clear is a way where those walks are clear by another word
pub way_as : {P Q : List ℕ → Type 0} {n s d i j c : ℕ} → ((cs : List ℕ) → P cs → Q cs) → WayBy P n s d i j c → WayBy Q n s d i j c
way_as to w =
    record {
      walk = w.walk;
      links = w.links;
      codes = w.codes;
      is_clear = to w.walk w.is_clear;
      reaches = w.reaches;
      code = w.code;
      toward = w.toward;
    }

module _ (n : ℕ) (stops : Rule) (s d i : ℕ) (inside : i < n) where
  -- the walk that reaches a way's switch is one toward d
  pub way_onward : (j c : ℕ) (w : Way n stops s d i j c) → Onward n stops s d i w.walk
  way_onward j c w =
      record {
        links = w.links;
        codes = w.codes;
        clear = w.is_clear;
        agrees = rw w.reaches (sym (low_bits_stay n i inside c j) ∙ agree_less i (suc i) (lands n i c j) d (omega arith) w.toward);
      }

  -- and every link on from such a walk is a way
  pub onward_way : (cs : List ℕ) (c : ℕ) → Onward n stops s d i cs → Code c → Agree (suc i) (lands n i c (walked n 0 s cs)) d → Way n stops s d i (walked n 0 s cs) c
  onward_way cs c o code toward =
      record { walk = cs; links = o.links; codes = o.codes; is_clear = o.clear; reaches = refl; code = code; toward = toward }

  -- a way leads on wherever a clear walk toward d arrives
  pub some_way : (cs : List ℕ) → Onward n stops s d i cs → (c : ℕ) × Way n stops s d i (walked n 0 s cs) c
  some_way cs o = go (ℕ_discrete (bit i (walked n 0 s cs)) (bit i d))
    where
      go : Dec (bit i (walked n 0 s cs) ≡ bit i d) → (c : ℕ) × Way n stops s d i (walked n 0 s cs) c
      go (yes e) = (0, onward_way cs 0 o (omega arith) (straight_toward n i inside (walked n 0 s cs) d o.agrees e))
      go (no e) = (1, onward_way cs 1 o (omega arith) (nonstraight_toward n i inside 1 (walked n 0 s cs) d (omega arith) o.agrees e))

  -- where the straight link is a way it is the only one
  pub straight_alone : (j c : ℕ) → Way n stops s d i j 0 → Way n stops s d i j c → c ≡ 0
  straight_alone j c w v = go (ℕ_discrete (bit i j) (bit i d))
    where
      go : Dec (bit i j ≡ bit i d) → c ≡ 0
      go (yes e) = toward_straight n i inside c j d v.toward e
      go (no e) = let l = toward_nonstraight n i inside 0 j d w.toward e in absurd (omega arith)

  -- where a nonstraight link is a way, both are
  pub both_arms : (j c e : ℕ) → 0 < c → 0 < e → Code e → Way n stops s d i j c → Way n stops s d i j e
  both_arms j c e hc he code w = go (ℕ_discrete (bit i j) (bit i d))
    where
      go : Dec (bit i j ≡ bit i d) → Way n stops s d i j e
      go (yes b) = let z = toward_straight n i inside c j d w.toward b in absurd (omega arith)
      go (no b) =
          let o = way_onward j c w in
          let at : Agree i j d = subst (λ (x : ℕ). Agree i x d) w.reaches o.agrees in
          record {
            walk = w.walk;
            links = w.links;
            codes = w.codes;
            is_clear = w.is_clear;
            reaches = w.reaches;
            code = code;
            toward = nonstraight_toward n i inside e j d he at b;
          }

  -- where no clear walk crosses the stage, every way is stopped
  pub way_stopped : NoneCross n stops s d i → (j c : ℕ) → Way n stops s d i j c → 1 ≤ stops i j c
  way_stopped none j c w =
      let held : (stops i j c ≡ 0 → ⊥) =
      λ e. none (w.walk ++ (c ∷ [])) (lengthened n stops s d i w.walk c (way_onward j c w) w.code (rw w.reaches e) (rw w.reaches w.toward)) in
      omega arith

  -- a walk toward d of i+1 links, all of them clear but perhaps the last, which has code c
  pub record Beyond (cs : List ℕ) (c : ℕ) : Type 0 where
    pub clear : Onward n stops s d i cs
    pub code : Code c
    pub agrees : Agree (suc i) (walked n 0 s (cs ++ (c ∷ []))) d

  next_end : (cs : List ℕ) (c : ℕ) → Onward n stops s d i cs → walked n 0 s (cs ++ (c ∷ [])) ≡ lands n i c (walked n 0 s cs)
  next_end cs c o = walked_snoc n s cs c ∙ ap (λ (m : ℕ). lands n m c (walked n 0 s cs)) o.links

  way_beyond : (j c : ℕ) (w : Way n stops s d i j c) → Beyond w.walk c
  way_beyond j c w =
      let o = way_onward j c w in
      record { clear = o; code = w.code; agrees = rw (next_end w.walk c o, w.reaches) w.toward }

  beyond_way : (cs : List ℕ) (c : ℕ) → Beyond cs c → Way n stops s d i (walked n 0 s cs) c
  beyond_way cs c b = onward_way cs c b.clear b.code (subst (λ (x : ℕ). Agree (suc i) x d) (next_end cs c b.clear) b.agrees)

  -- "the lowest of a notice that counts and stops a way onward", over all such walks: it stops the last link of one of them, and none that stops another's is
  -- lower
  pub number_by_walks : (k : ℕ) → NumberNamed n stops s d i k
      ↔ ((1 ≤ k) × ((cs : List ℕ) × (c : ℕ) × Beyond cs c × (stops i (walked n 0 s cs) c ≡ k))
      × ((cs : List ℕ) (c : ℕ) → Beyond cs c → 1 ≤ stops i (walked n 0 s cs) c → k ≤ stops i (walked n 0 s cs) c))
  number_by_walks k = (
    (λ w. (
      w.some,
      (w.way.walk, w.code, way_beyond w.switch w.code w.way, rw w.way.reaches w.stopped),
      λ cs c b. w.least (walked n 0 s cs) c (beyond_way cs c b),
    )),
    λ v.
        let cs : List ℕ = v.1.0 in
        let c : ℕ = v.1.1 in
        record {
          switch = walked n 0 s cs;
          code = c;
          way = beyond_way cs c v.1.2;
          stopped = v.1.3;
          some = v.0;
          least = λ j e w l. rw w.reaches at (v.2 w.walk e (way_beyond j e w) (rw w.reaches l));
        },
  )

-- no second number
pub number_once : (n : ℕ) (stops : Rule) (s d i k m : ℕ) → NumberNamed n stops s d i k → NumberNamed n stops s d i m → k ≡ m
number_once n stops s d i k m p q =
    let a = p.some in
    let b = q.some in
    let e = p.stopped in
    let f = q.stopped in
    let l = p.least q.switch q.code q.way (omega arith) in
    let r = q.least p.switch p.code p.way (omega arith) in
    omega arith
