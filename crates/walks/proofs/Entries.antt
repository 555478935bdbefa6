-- Theorems over walk: what its answers say, and that its promise leaves no second answer.
use Rattle.std.specs.Prelude.{Ok, Err}
use Rattle.walks.specs.declared.NotClear.{NotClear}
use mathlib.Core.Path.{◌≡◌, refl, sym, ap, ap₂, subst, ◌∙◌}
use mathlib.Core.Bool.{false}
use mathlib.Core.List.{List, [], ◌∷◌}
use mathlib.Core.Logic.{⊎_elim, ◌↔◌}
use Prim.Native.Nat.{ℕ, ◌≤◌, ◌<◌}
use native.Mathlib.Decide.{ℕ_discrete, dec_lt}
use native.Mathlib.Omega.{arith}
use borrow.Author.Tests.{lt-leb, leb-false}
use lib.ListN.{get_or}
use Rattle.table.specs.Numbers.{number_of}
use Rattle.table.specs.Reply.{Reply, refused, Numbered}
use Rattle.table.specs.Checks.{Passed, Passed.none, Passed.passes, ◌when◌, numbers}
use Rattle.table.proofs.Numbers.{number_tells, above_zero, below_seventeen}
use Rattle.table.proofs.Checks.{given_or_passed, passed_nth, zero_one}
use Rattle.fabric.specs.Labels.{size}
use Rattle.fabric.specs.Walks.{walked, switch_at}
use Rattle.scheme.specs.Tags.{tags, destination, steps_of}
use Rattle.scheme.proofs.Steps.{steps_of_tag, tag_arrives}
use Rattle.book.specs.declared.Book.{Book}
use Rattle.paths.specs.Clear.{Rule, Clear}
use Rattle.book.specs.Standing.{stops_of, unsound}
use Rattle.walks.specs.Entries.{walk_says, walk_checks, FirstStopped, Walked, Walks, Ended}

-- "Walk (book, source, tag): 16, 10, 12", the checks before the walk
pub walk_order : (b : Book) (s tag : ℕ) → numbers (walk_checks b s tag) ≡ 16 ∷ 10 ∷ 12 ∷ []
walk_order b s tag = refl

-- 10: the source is not below N; 12: the tag is not below 2^(2n)
pub walk_lets_pass : (b : Book) (s tag : ℕ) → Passed (walk_checks b s tag) ↔ ((unsound b ≡ false) × (s < size b.n) × (tag < tags b.n))
walk_lets_pass b s tag = (
  (λ p.
      let ok : (k : ℕ) → (get_or (walk_checks b s tag) k (0 when false)).holds ≡ false = λ k. passed_nth (walk_checks b s tag) k p in
      (ok 0, leb-false (size b.n) s (ok 1), leb-false (tags b.n) tag (ok 2))),
  (λ w. passes w.0 (passes (lt-leb (size b.n) s w.1) (passes (lt-leb (tags b.n) tag w.2) none))),
)

-- every refusal comes with a number of the table
pub ended_numbered : (a : Ended) → Numbered (walk_says a)
ended_numbered (Ok _) = tt
ended_numbered (Err (NotClear.Stopped i m)) = omega arith
ended_numbered (Err NotClear.Astray) = omega arith
ended_numbered (Err (NotClear.Refused r)) = above_zero r

-- answers that say one number alone are one answer
pub ended_tells : (a b : Ended) (k : ℕ) → walk_says a ≡ refused k → walk_says b ≡ refused k → a ≡ b
ended_tells (Ok _) b k e f = absurd (zero_one cc)
ended_tells (Err (NotClear.Stopped i m)) b k e f = absurd (zero_one cc)
ended_tells (Err NotClear.Astray) (Ok _) k e f = absurd (zero_one cc)
ended_tells (Err NotClear.Astray) (Err (NotClear.Stopped j m)) k e f = absurd (zero_one cc)
ended_tells (Err NotClear.Astray) (Err NotClear.Astray) k e f = refl
ended_tells (Err NotClear.Astray) (Err (NotClear.Refused r)) k e f = let z : 17 ≡ number_of r = cc in (let l = below_seventeen r in absurd (omega arith))
ended_tells (Err (NotClear.Refused q)) (Ok _) k e f = absurd (zero_one cc)
ended_tells (Err (NotClear.Refused q)) (Err (NotClear.Stopped j m)) k e f = absurd (zero_one cc)
ended_tells (Err (NotClear.Refused q)) (Err NotClear.Astray) k e f = let z : 17 ≡ number_of q = cc in (let l = below_seventeen q in absurd (omega arith))
ended_tells (Err (NotClear.Refused q)) (Err (NotClear.Refused r)) k e f = let z : number_of q ≡ number_of r = cc in ap (λ r. Err (NotClear.Refused r)) (number_tells q r z)

-- over one rule, a walk has one answer
module _ (n : ℕ) (stops : Rule) where
  stopped_once : (s : ℕ) (cs : List ℕ) (i j k m : ℕ) → FirstStopped n stops s cs i k → FirstStopped n stops s cs j m → (i ≡ j) × (k ≡ m)
  stopped_once s cs i j k m p q =
      let e : i ≡ j = go (dec_lt i j) (dec_lt j i) in
      (e, sym p.number ∙ ap (λ (x : ℕ). stops x (switch_at n s cs x) (get_or cs x 0)) e ∙ q.number)
    where
      go : Dec (i < j) → Dec (j < i) → i ≡ j
      go (yes h) d = absurd (p.stopped (sym p.number ∙ q.before i h))
      go (no h) (yes g) = absurd (q.stopped (sym q.number ∙ p.before j g))
      go (no h) (no g) = omega arith

  -- "the first stage at which it meets a stopped link": it is stopped there, and at no stage below
  pub first_stopped_least : (s : ℕ) (cs : List ℕ) (i k m : ℕ) → FirstStopped n stops s cs i k → (stops m (switch_at n s cs m) (get_or cs m 0) ≡ 0 → ⊥) → i ≤ m
  first_stopped_least s cs i k m p held = go (dec_lt m i)
    where
      go : Dec (m < i) → i ≤ m
      go (yes h) = absurd (held (p.before m h))
      go (no h) = omega arith

  -- "A walk hands on the number that the link test gives": the number is not 0, and it is the rule's own for the link of that stage
  pub passes_on : (s : ℕ) (cs : List ℕ) (i k : ℕ) → FirstStopped n stops s cs i k → (1 ≤ k) × (stops i (switch_at n s cs i) (get_or cs i 0) ≡ k)
  passes_on s cs i k p = let held = p.stopped in (omega arith, p.number)

  pub least_stopped_first : (s : ℕ) (cs : List ℕ) (i : ℕ) → i < n → (stops i (switch_at n s cs i) (get_or cs i 0) ≡ 0 → ⊥)
      → ((k : ℕ) → (stops k (switch_at n s cs k) (get_or cs k 0) ≡ 0 → ⊥) → i ≤ k) → FirstStopped n stops s cs i (stops i (switch_at n s cs i) (get_or cs i 0))
  least_stopped_first s cs i inside held least =
      record { stage = inside; number = refl; stopped = held; before = λ k h. clear k h (ℕ_discrete (stops k (switch_at n s cs k) (get_or cs k 0)) 0) }
    where
      clear : (k : ℕ) → k < i → Dec (stops k (switch_at n s cs k) (get_or cs k 0) ≡ 0) → stops k (switch_at n s cs k) (get_or cs k 0) ≡ 0
      clear k h (yes e) = e
      clear k h (no e) = let l = least k e in absurd (omega arith)

  not_both : (s tag i k : ℕ) → FirstStopped n stops s (steps_of n s tag) i k → Clear n stops s (steps_of n s tag) → ⊥
  not_both s tag i k p clear = let l = (steps_of_tag n s tag).stages in let h = p.stage in p.stopped (sym p.number ∙ clear i (omega arith))

  pub walked_once : (s tag : ℕ) (a b : Ended) → Walked n stops s tag a → Walked n stops s tag b → a ≡ b
  walked_once s tag (Err (NotClear.Stopped i k)) (Err (NotClear.Stopped j m)) p q = let e = stopped_once s (steps_of n s tag) i j k m p q in ap₂ (λ x y. Err (NotClear.Stopped x y)) e.0 e.1
  walked_once s tag (Err (NotClear.Stopped i k)) (Ok _) p q = absurd (not_both s tag i k p q.0)
  walked_once s tag (Err (NotClear.Stopped i k)) (Err NotClear.Astray) p q = absurd (not_both s tag i k p q.0)
  walked_once s tag (Err (NotClear.Stopped i k)) (Err (NotClear.Refused r)) p q = absurd q
  walked_once s tag (Ok _) (Err (NotClear.Stopped j m)) p q = absurd (not_both s tag j m q p.0)
  walked_once s tag (Ok _) (Ok _) p q = refl
  walked_once s tag (Ok _) (Err NotClear.Astray) p q = absurd (q.1 p.1)
  walked_once s tag (Ok _) (Err (NotClear.Refused r)) p q = absurd q
  walked_once s tag (Err NotClear.Astray) (Err (NotClear.Stopped j m)) p q = absurd (not_both s tag j m q p.0)
  walked_once s tag (Err NotClear.Astray) (Ok _) p q = absurd (p.1 q.1)
  walked_once s tag (Err NotClear.Astray) (Err NotClear.Astray) p q = refl
  walked_once s tag (Err NotClear.Astray) (Err (NotClear.Refused r)) p q = absurd q
  walked_once s tag (Err (NotClear.Refused r)) b p q = absurd p

-- no second answer
pub walk_once : (b : Book) (s tag : ℕ) (x y : Ended) → Walks b s tag x → Walks b s tag y → x ≡ y
walk_once b s tag x y p q =
    ⊎_elim
    (λ g. ended_tells x y g.0 (p.refuses g.0 g.1) (q.refuses g.0 g.1))
    (λ w. walked_once b.n (stops_of b) s tag x y (p.walks w) (q.walks w))
    (given_or_passed (walk_checks b s tag))

-- what a walk's answer says, past 16, 10 and 12
module _ (b : Book) (s tag : ℕ) (passed : Passed (walk_checks b s tag)) (a : Ended) (answers : Walks b s tag a) where
  -- 11: "for a walk, the first stage at which it meets a stopped link", and the number that stops it
  pub eleven_exactly : (i k : ℕ) → (walk_says a ≡ Reply.refused_with 11 (i ∷ k ∷ [])) ↔ FirstStopped b.n (stops_of b) s (steps_of b.n s tag) i k
  eleven_exactly i k = (
    told a (answers.walks passed),
    λ w. ap walk_says (walked_once b.n (stops_of b) s tag a (Err (NotClear.Stopped i k)) (answers.walks passed) w),
  )
    where
      told : (x : Ended) → Walked b.n (stops_of b) s tag x → walk_says x ≡ Reply.refused_with 11 (i ∷ k ∷ [])
          → FirstStopped b.n (stops_of b) s (steps_of b.n s tag) i k
      told (Ok _) w e = absurd (zero_one cc)
      told (Err (NotClear.Stopped j m)) w e =
          let y : j ≡ i = cc in
          let z : m ≡ k = cc in
          subst (λ (x : ℕ). FirstStopped b.n (stops_of b) s (steps_of b.n s tag) x k) y
          (subst (FirstStopped b.n (stops_of b) s (steps_of b.n s tag) j) z w)
      told (Err NotClear.Astray) w e = absurd (zero_one cc)
      told (Err (NotClear.Refused r)) w e = absurd w

  -- "Past these the walk is clear": the walk met no stopped link and ends at its tag's destination
  pub clear_exactly : (walk_says a ≡ Reply.accepted []) ↔ (Clear b.n (stops_of b) s (steps_of b.n s tag) × (walked b.n 0 s (steps_of b.n s tag) ≡ destination b.n tag))
  clear_exactly = (
    told a (answers.walks passed),
    λ w. ap walk_says (walked_once b.n (stops_of b) s tag a (Ok tt) (answers.walks passed) w),
  )
    where
      told : (x : Ended) → Walked b.n (stops_of b) s tag x → walk_says x ≡ Reply.accepted []
          → Clear b.n (stops_of b) s (steps_of b.n s tag) × (walked b.n 0 s (steps_of b.n s tag) ≡ destination b.n tag)
      told (Ok _) w e = w
      told (Err (NotClear.Stopped j m)) w e = absurd (zero_one cc)
      told (Err NotClear.Astray) w e = absurd (zero_one cc)
      told (Err (NotClear.Refused r)) w e = absurd w

  -- 17: "a walk that ends elsewhere than its tag says"
  pub seventeen_exactly : (walk_says a ≡ refused 17) ↔ (Clear b.n (stops_of b) s (steps_of b.n s tag) × (walked b.n 0 s (steps_of b.n s tag) ≡ destination b.n tag → ⊥))
  seventeen_exactly = (
    told a (answers.walks passed),
    λ w. ap walk_says (walked_once b.n (stops_of b) s tag a (Err NotClear.Astray) (answers.walks passed) w),
  )
    where
      told : (x : Ended) → Walked b.n (stops_of b) s tag x → walk_says x ≡ refused 17
          → Clear b.n (stops_of b) s (steps_of b.n s tag) × (walked b.n 0 s (steps_of b.n s tag) ≡ destination b.n tag → ⊥)
      told (Ok _) w e = absurd (zero_one cc)
      told (Err (NotClear.Stopped j m)) w e = absurd (zero_one cc)
      told (Err NotClear.Astray) w e = w
      told (Err (NotClear.Refused r)) w e = absurd w

  -- 17 is never given: "a walk that ends elsewhere than its tag says", and none does (docs/RULES.md, 'Tags and steps', theorem 3.1)
  pub seventeen_never : walk_says a ≡ refused 17 → ⊥
  seventeen_never e = (seventeen_exactly.0 e).1 (tag_arrives b.n s tag ((walk_lets_pass b s tag).0 passed).1)
