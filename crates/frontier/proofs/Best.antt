-- The first of some walks, and how it is found again after one link more, and where two ways meet.
use Rattle.std.proofs.Common.{◌≡◌, ℕ, suc, ◌+◌, ◌*◌, ◌^◌, ◌<◌, ◌≤◌, cond, not, eqb, ◌⊎◌, List, [], ◌∷◌, ◌++◌, length, sym, refl, ap, ◌∙◌, subst, ap₂, inl, inr, ⊎_elim, pow-suc, arith, pow_mono, eq-eqb, ne_eqb}
use native.Mathlib.Decide.{ℕ_discrete, dec_le, dec_lt}
use Rattle.fabric.specs.Labels.{size, bit}
use Rattle.fabric.specs.Walks.{walked}
use Rattle.scheme.specs.Scheme.{state_for}
use Rattle.scheme.proofs.Table.{state_for_lt}
use Rattle.paths.specs.Clear.{Rule}
use Rattle.frontier.specs.Stops.{stopping}
use Rattle.frontier.specs.Frontier.{through, lesser}
use Rattle.paths.proofs.Keys.{key_of, key_lt, key_next}
use Rattle.frontier.proofs.Places.{lesser_earlier, lesser_later}

-- the first of some walks from s: what a number of the frontier stands for
pub record Leads (n s : ℕ) (P : List ℕ → Type 0) (p : ℕ) : Type 0 where
  pub walk : List ℕ
  pub among : P walk
  pub keyed : p ≡ key_of n 0 s walk
  pub least : (cs : List ℕ) → P cs → p ≤ key_of n 0 s cs

pub record Best (n s : ℕ) (P : List ℕ → Type 0) (p : ℕ) : Type 0 where
  pub reached : p < size n → Leads n s P p
  pub unreached : size n ≤ p → (cs : List ℕ) → P cs → ⊥

-- walks that end with a clear link of stage i from switch j
pub record Via (stops : Rule) (i j c : ℕ) (P : List ℕ → Type 0) (cs : List ℕ) : Type 0 where
  pub before : List ℕ
  pub among : P before
  pub ends : cs ≡ before ++ (c ∷ [])
  pub free : stops i j c ≡ 0

module _ (n s : ℕ) where
  pub none_best : (P : List ℕ → Type 0) → ((cs : List ℕ) → P cs → ⊥) → (p : ℕ) → size n ≤ p → Best n s P p
  none_best P empty p l = record { reached = λ m. absurd (omega arith); unreached = λ m. empty }

  -- the first of some walks is the first of others, where both are the same walks
  pub best_as : {P Q : List ℕ → Type 0} {p : ℕ} → ((cs : List ℕ) → P cs → Q cs) → ((cs : List ℕ) → Q cs → P cs) → Best n s P p → Best n s Q p
  best_as to back b =
      record {
        reached = λ l.
            let w = b.reached l in
            record { walk = w.walk; among = to w.walk w.among; keyed = w.keyed; least = λ cs v. w.least cs (back cs v) };
        unreached = λ l cs v. b.unreached l cs (back cs v);
      }

  pub through_best : (stops : Rule) (i j c state : ℕ) (P : List ℕ → Type 0) (p : ℕ) → i < n
      → ((cs : List ℕ) → P cs → (length cs ≡ i) × (walked n 0 s cs ≡ j)) → state ≡ state_for (bit i j) c
      → Best n s P p → Best n s (Via stops i j c P) (through n p (stopping (stops i j c)) state)
  unfolding through
  through_best stops i j c state P p inside onto es b = go (ℕ_discrete (stops i j c) 0)
    where
      keyed : (cs : List ℕ) → P cs → key_of n 0 s (cs ++ (c ∷ [])) ≡ key_of n 0 s cs * 2 + state
      keyed cs w = let o = onto cs w in key_next n s cs c ∙ ap₂ (λ (k x : ℕ). key_of n 0 s cs * 2 + state_for (bit k x) c) o.0 o.1 ∙ ap (λ (x : ℕ). key_of n 0 s cs * 2 + x) (sym es)

      -- a walk of i links leaves room for one link more
      room : p < size n → p * 2 + state < size n
      room l =
          let w = b.reached l in
          let k = w.keyed in
          let m = subst (λ (x : ℕ). key_of n 0 s w.walk < 2 ^ x) (onto w.walk w.among).0 (key_lt n 0 s w.walk) in
          let d = pow-suc 2 i in
          let r : 2 ^ suc i ≤ 2 ^ n = pow_mono inside in
          let t = state_for_lt (bit i j) c in
          omega arith

      leads : stops i j c ≡ 0 → p < size n → Leads n s (Via stops i j c P) (p * 2 + state + 0)
      leads z l =
          let w = b.reached l in
          let e = w.keyed in
          let f = keyed w.walk w.among in
          record {
            walk = w.walk ++ (c ∷ []);
            among = record { before = w.walk; among = w.among; ends = refl; free = z };
            keyed = omega arith;
            least = λ cs v.
                let m = w.least v.before v.among in
                let k = keyed v.before v.among in
                rw v.ends (omega arith);
          }

      none : size n ≤ p * 2 + state + 0 → (cs : List ℕ) → Via stops i j c P cs → Dec (p < size n) → ⊥
      none m cs v (yes l) = let r = room l in absurd (omega arith)
      none m cs v (no l) = b.unreached (omega arith) v.before v.among

      go : Dec (stops i j c ≡ 0) → Best n s (Via stops i j c P) (p * 2 + state + cond (not (eqb (stops i j c) 0)) (size n) 0)
      go (yes z) =
          rw (eq-eqb _ _ z)
          (record { reached = λ m. leads z (omega arith); unreached = λ m cs v. none m cs v (dec_lt p (size n)) })
      go (no z) = rw (ne_eqb _ _ z) (none_best (Via stops i j c P) (λ cs v. z v.free) _ (omega arith))

  pub lesser_best : (P Q : List ℕ → Type 0) (p q : ℕ) → Best n s P p → Best n s Q q → Best n s (λ cs. P cs ⊎ Q cs) (lesser p q)
  lesser_best P Q p q a b = go (dec_le p q)
    where
      either : {p q : ℕ} {P Q : List ℕ → Type 0} → Best n s P p → Best n s Q q → p ≤ q → Best n s (λ cs. P cs ⊎ Q cs) p
      either {p} {q} {P} {Q} a b l =
          record {
            reached = λ m.
                let w = a.reached m in
                record { walk = w.walk; among = inl w.among; keyed = w.keyed; least = λ cs v. ⊎_elim (w.least cs) (λ u. later cs u (dec_lt q (size n))) v };
            unreached = λ m cs v. ⊎_elim (a.unreached m cs) (b.unreached (omega arith) cs) v;
          }
        where
          later : (cs : List ℕ) → Q cs → Dec (q < size n) → p ≤ key_of n 0 s cs
          later cs u (yes k) = let m = (b.reached k).least cs u in omega arith
          later cs u (no k) = absurd (b.unreached (omega arith) cs u)

      go : Dec (p ≤ q) → Best n s (λ cs. P cs ⊎ Q cs) (lesser p q)
      go (yes l) = subst (Best n s (λ cs. P cs ⊎ Q cs)) (lesser_earlier p q l) (either a b l)
      go (no l) =
          subst (Best n s (λ cs. P cs ⊎ Q cs)) (lesser_later p q (omega arith))
          (best_as (λ cs v. ⊎_elim inr inl v) (λ cs v. ⊎_elim inr inl v) (either b a (omega arith)))
