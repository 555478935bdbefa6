-- `checked` is the sentence of docs/RULES.md, 'Numbers handed back': a number is given where its line holds and every check before it has passed, and nowhere
-- else.
use mathlib.Core.Path.{◌≡◌, refl, sym, ap, ◌∙◌}
use mathlib.Core.Bool.{Bool, true, false, not, ◌&&◌, ◌||◌, true≢false}
use mathlib.Core.List.{List, [], ◌∷◌, ◌++◌}
use mathlib.Core.Logic.{◌⊎◌, inl, inr, ◌↔◌}
use Prim.Native.Nat.{ℕ, zero, suc, ◌≤◌, ◌<◌}
use native.Mathlib.Omega.{arith}
use borrow.Author.Tests.{lt-ltb, le-ltb, le-leb, lt-leb, eq-eqb, ne_eqb, ltb-false, leb-false}
use lib.Dec.{eqb}
use lib.ListN.{get_or}
use Rattle.table.specs.Reply.{Reply.accepted, refused}
use Rattle.table.specs.Checks.{Check, ◌when◌, ◌below◌, ◌not_below◌, checked, Given, Given.here, Given.later, Passed, Passed.none, Passed.passes}

-- what two cases that cannot be equal come to: `zero_one cc`
pub zero_one : ◌≡◌ {A = ℕ} 0 1 → ⊥
zero_one e = omega arith

module _ {A : Type 0} (refuse : ℕ → A) (accept : A) where
  pub given_refuses : (k : ℕ) (cs : List Check) → Given k cs → checked cs refuse accept ≡ refuse k
  given_refuses k (c ∷ cs) (here h e) = rw (h, e)
  given_refuses k (c ∷ cs) (later h g) = rw h (given_refuses k cs g)
  given_refuses k [] x' = elim x' [ ]

  pub passed_accepts : (cs : List Check) → Passed cs → checked cs refuse accept ≡ accept
  passed_accepts [] none = refl
  passed_accepts (c ∷ cs) (passes h p) = rw h (passed_accepts cs p)

-- some number is given, or every check is passed
pub given_or_passed : (cs : List Check) → ((k : ℕ) × Given k cs) ⊎ Passed cs
given_or_passed [] = inr none
given_or_passed (c ∷ cs) = go c.holds refl (given_or_passed cs)
  where
    go : (b : Bool) → c.holds ≡ b → ((k : ℕ) × Given k cs) ⊎ Passed cs → ((k : ℕ) × Given k (c ∷ cs)) ⊎ Passed (c ∷ cs)
    go true e rest = inl (c.number, here e refl)
    go false e (inl g) = inl (g.0, later e g.1)
    go false e (inr p) = inr (passes e p)

-- and no two numbers are given
pub given_once : (j k : ℕ) (cs : List Check) → Given j cs → Given k cs → j ≡ k
given_once j k cs g h = sym (given_refuses (λ m. m) 0 j cs g) ∙ given_refuses (λ m. m) 0 k cs h

-- nor is a number given where every check is passed
pub not_given_and_passed : (k : ℕ) (cs : List Check) → Given k cs → Passed cs → ⊥
not_given_and_passed k cs g p =
    let e : ◌≡◌ {A = ℕ} 1 0 = sym (given_refuses (λ m. 1) 0 k cs g) ∙ passed_accepts (λ m. 1) 0 cs p in
    omega arith

-- an entry that accepts has passed every check
pub accepted_passed : (cs : List Check) (v w : List ℕ) → accepted w ≡ checked cs refused (accepted v) → Passed cs
accepted_passed cs v w e = go (given_or_passed cs)
  where
    go : ((k : ℕ) × Given k cs) ⊎ Passed cs → Passed cs
    go (inl g) =
        let f : accepted w ≡ refused g.0 = e ∙ given_refuses refused (accepted v) g.0 cs g.1 in
        absurd (zero_one cc)
    go (inr p) = p

-- an entry that refuses was given its number by its checks
pub refused_given : (cs : List Check) (v : List ℕ) (k : ℕ) → refused k ≡ checked cs refused (accepted v) → Given k cs
refused_given cs v k e = go (given_or_passed cs)
  where
    go : ((j : ℕ) × Given j cs) ⊎ Passed cs → Given k cs
    go (inl g) =
        let f : refused k ≡ refused g.0 = e ∙ given_refuses refused (accepted v) g.0 cs g.1 in
        let same : g.0 ≡ k = cc in
        rw same at g.1
    go (inr p) =
        let f : refused k ≡ accepted v = e ∙ passed_accepts refused (accepted v) cs p in
        absurd (zero_one cc)

-- and one that accepts says what an accepted call gives
pub accepted_says : (cs : List Check) (v w : List ℕ) → accepted w ≡ checked cs refused (accepted v) → w ≡ v
accepted_says cs v w e =
    let f : accepted w ≡ accepted v = e ∙ passed_accepts refused (accepted v) cs (accepted_passed cs v w e) in
    cc

-- what passed every check passed each
pub passed_nth : (cs : List Check) (k : ℕ) → Passed cs → (get_or cs k (0 when false)).holds ≡ false
passed_nth [] k none = refl
passed_nth (c ∷ cs) zero (passes h p) = h
passed_nth (c ∷ cs) (suc k) (passes h p) = passed_nth cs k p

-- checks and then more checks
pub given_before : {k : ℕ} (cs ds : List Check) → Given k cs → Given k (cs ++ ds)
given_before (c ∷ cs) ds (here h e) = here h e
given_before (c ∷ cs) ds (later h g) = later h (given_before cs ds g)
given_before {k = k} [] ds x' = elim x' [ ]

pub given_after : {k : ℕ} (cs ds : List Check) → Passed cs → Given k ds → Given k (cs ++ ds)
given_after [] ds none g = g
given_after (c ∷ cs) ds (passes h p) g = later h (given_after cs ds p g)

pub passed_both : (cs ds : List Check) → Passed cs → Passed ds → Passed (cs ++ ds)
passed_both [] ds none q = q
passed_both (c ∷ cs) ds (passes h p) q = passes h (passed_both cs ds p q)

-- what a test that the code made says of the test that it stands for
pub by_test : {made meant value : Bool} → made ≡ meant → made ≡ value → meant ≡ value
by_test e v = sym e ∙ v

pub neither : (a b : Bool) → (a || b) ≡ false → (a ≡ false) × (b ≡ false)
neither true b e = absurd (true≢false e)
neither false b e = (refl, e)

pub neither_of : (a b : Bool) → a ≡ false → b ≡ false → (a || b) ≡ false
neither_of a b e f = rw (e, f)

pub one_of : (a b : Bool) → a ≡ true → (a || b) ≡ true
one_of a b e = rw e

pub other_of : (a b : Bool) → a ≡ false → b ≡ true → (a || b) ≡ true
other_of a b e f = rw (e, f)

pub both_hold : (a b : Bool) → (a && b ≡ true) ↔ ((a ≡ true) × (b ≡ true))
both_hold true b = ((λ e. (refl, e)), (λ w. w.1))
both_hold false b = ((λ e. absurd (true≢false (sym e))), (λ w. absurd (true≢false (sym w.0))))

pub below_fails : {made : Bool} {a b : ℕ} → made ≡ (a below b) → made ≡ false → b ≤ a
below_fails {made} {a} {b} e v = ltb-false a b (by_test e v)

pub is_below : {made : Bool} {a b : ℕ} → made ≡ (a not_below b) → made ≡ false → a < b
is_below {made} {a} {b} e v = leb-false b a (by_test e v)

-- what tests for inequality say
pub unequal : {x y : ℕ} → (x ≡ y → ⊥) → not (eqb x y) ≡ true
unequal {x} {y} h = ap not (ne_eqb x y h)

pub equal : {x y : ℕ} → x ≡ y → not (eqb x y) ≡ false
equal {x} {y} h = ap not (eq-eqb x y h)

-- how an entry is shown to refuse by its checks, and to pass them: `search (LAW, refusing) depth 10`
pub ruleset refusing = (here, later, refl, by_test, lt-ltb, le-ltb, le-leb, lt-leb, eq-eqb, ne_eqb)

pub ruleset accepting = (none, passes, by_test, le-ltb, lt-leb, ne_eqb)
