-- What `insert`, `those` and `without` do to the notices of a list, and that lists by rising number are told by their notices.
use mathlib.Core.Path.{◌≡◌, refl, sym, ap, ap₂, ◌∙◌}
use mathlib.Core.Bool.{Bool, true, false, cond, not, true≢false}
use mathlib.Core.List.Memᴰ
use mathlib.Core.List.{List, [], ◌∷◌, Memᴰ}
use mathlib.Core.Logic.{◌⊎◌, inl, inr, ⊎_elim, ◌↔◌}
use Prim.Native.Nat.{ℕ, zero, suc, ◌≤◌, ◌<◌}
use native.Mathlib.Decide.{ℕ_discrete, dec_lt}
use native.Mathlib.Omega.{arith}
use borrow.Author.Tests.{eq-eqb, ne_eqb, eqb-true, lt-ltb, le-ltb}
use lib.ListN.{length, get_or}
use Rattle.table.specs.Checks.{◌below◌}
use Rattle.table.proofs.Checks.{unequal, equal}
use Rattle.notices.specs.declared.Notice.{Notice}
use Rattle.standing.specs.Picked.{those}
use Rattle.standing.specs.Rising.{numbered, other_than, stands, insert, without, Filed, Distinct}
use Rattle.standing.proofs.Distinct.{place_of, at_place}
use Rattle.standing.proofs.Picked.{some_exactly, none_exactly, those_exactly, those_length, those_all, those_turned}

abbrev pub Within : List Notice → List Notice → Type 0
Within t s = (x : Notice) → Memᴰ x t → Memᴰ x s

-- a number stands exactly where a notice of the list has it
pub stands_member : (k : ℕ) (l : List Notice) → stands k l ≡ true → (x : Notice) × Memᴰ x l × (x.number ≡ k)
stands_member k l s = let w = (some_exactly (numbered k) l).0 s in (w.0, w.1, eqb-true w.0.number k w.2)

pub member_stands : (x : Notice) (l : List Notice) → Memᴰ x l → stands x.number l ≡ true
member_stands x l m = (some_exactly (numbered x.number) l).1 (x, m, eq-eqb x.number x.number refl)

module _ (bad : Notice → Bool) where
  -- every number lies above where the list starts, and none is bad
  pub all_above : (m : ℕ) (l : List Notice) (x : Notice) → Filed bad m l → Memᴰ x l → m < x.number
  unfolding Filed
  all_above m [] x f h = absurd (Memᴰ.not-nil h)
  all_above m (y ∷ ys) x f h =
      let g = f.0 in
      ⊎_elim
      (λ e. let q = ap (λ (z : Notice). z.number) e in omega arith)
      (λ w. let r = all_above y.number ys x f.2 w in omega arith)
      (Memᴰ.cases_cons h)

  pub none_bad : (m : ℕ) (l : List Notice) (x : Notice) → Filed bad m l → Memᴰ x l → bad x ≡ false
  unfolding Filed
  none_bad m [] x f h = absurd (Memᴰ.not-nil h)
  none_bad m (y ∷ ys) x f h =
      ⊎_elim
      (λ e. ap bad e ∙ f.1)
      (λ w. none_bad y.number ys x f.2 w)
      (Memᴰ.cases_cons h)

  pub filed_lower : (k m : ℕ) (l : List Notice) → k ≤ m → Filed bad m l → Filed bad k l
  unfolding Filed
  filed_lower k m [] h f = tt
  filed_lower k m (y ∷ ys) h f = let g = f.0 in (omega arith, f.1, f.2)

  -- "the lowest number first": a list is filed exactly where each of its notices lies above where it starts and is not bad, and
  -- each has a lower number than all that come after it
  pub filed_exactly : (d : Notice) (m : ℕ) (l : List Notice)
      → Filed bad m l
      ↔ (((x : Notice) → Memᴰ x l → (m < x.number) × (bad x ≡ false))
      × ((i j : ℕ) → i < j → j < length l → (get_or l i d).number < (get_or l j d).number))
  unfolding Filed
  filed_exactly d m l = ((λ f. ((λ x h. (all_above m l x f h, none_bad m l x f h)), rising m l f)), (λ w. back m l w.0 w.1))
    where
      rising : (m : ℕ) (l : List Notice) → Filed bad m l → (i j : ℕ) → i < j → j < length l → (get_or l i d).number < (get_or l j d).number
      rising m [] f i j h k = absurd (omega arith)
      rising m (y ∷ ys) f i zero h k = absurd (omega arith)
      rising m (y ∷ ys) f zero (suc j) h k = all_above y.number ys (get_or ys j d) f.2 (at_place d ys j (omega arith))
      rising m (y ∷ ys) f (suc i) (suc j) h k = rising y.number ys f.2 i j (omega arith) (omega arith)

      back : (m : ℕ) (l : List Notice) → ((x : Notice) → Memᴰ x l → (m < x.number) × (bad x ≡ false))
          → ((i j : ℕ) → i < j → j < length l → (get_or l i d).number < (get_or l j d).number) → Filed bad m l
      back m [] each r = tt
      back m (y ∷ ys) each r =
          let w = each y (Memᴰ.head refl) in (
            w.0,
            w.1,
            back y.number ys (λ x h.
                let p = place_of x d ys h in
                let g = r 0 (suc p.0) (omega arith) (omega (arith, p.1)) in
                (rw p.2 at g, (each x (Memᴰ.tail h)).1)) (λ i j h k. r (suc i) (suc j) (omega arith) (omega arith)),
          )

  -- no two notices of the list have one number
  pub one_number : (m : ℕ) (l : List Notice) (x y : Notice) → Filed bad m l → Memᴰ x l → Memᴰ y l → x.number ≡ y.number → x ≡ y
  unfolding Filed
  one_number m [] x y f p q e = absurd (Memᴰ.not-nil p)
  one_number m (z ∷ zs) x y f p q e = go (Memᴰ.cases_cons p) (Memᴰ.cases_cons q) (one_number z.number zs x y f.2)
    where
      above : (w : Notice) → Memᴰ w zs → z.number < w.number
      above w h = all_above z.number zs w f.2 h

      go : (x ≡ z) ⊎ Memᴰ x zs → (y ≡ z) ⊎ Memᴰ y zs → (Memᴰ x zs → Memᴰ y zs → x.number ≡ y.number → x ≡ y) → x ≡ y
      go (inl a) (inl b) ih = a ∙ sym b
      go (inl a) (inr b) ih = let r = above y b in let s = ap (λ (w : Notice). w.number) a in absurd (omega arith)
      go (inr a) (inl b) ih = let r = above x a in let s = ap (λ (w : Notice). w.number) b in absurd (omega arith)
      go (inr a) (inr b) ih = ih a b e

  pub filed_distinct : (m : ℕ) (l : List Notice) → Filed bad m l → Distinct l
  unfolding Filed Distinct
  filed_distinct m [] f = tt
  filed_distinct m (y ∷ ys) f = ((λ h. let r = all_above y.number ys y f.2 h in absurd (omega arith)), filed_distinct y.number ys f.2)

  -- a number stands only where it lies above where the list starts
  pub above_stands_not : (m k : ℕ) (l : List Notice) → Filed bad m l → k ≤ m → stands k l ≡ false
  above_stands_not m k l f h =
      (none_exactly (numbered k) l).1 (λ x w. let g = all_above m l x f w in ne_eqb x.number k (λ e. omega arith))

-- what stands after a notice was inserted
pub insert_has : (x : Notice) (l : List Notice) → Memᴰ x (insert x l)
unfolding insert
insert_has x [] = Memᴰ.head refl
insert_has x (y ∷ ys) = go (y.number below x.number) (insert_has x ys)
  where
    go : (b : Bool) → Memᴰ x (insert x ys) → Memᴰ x (cond b (y ∷ insert x ys) (x ∷ y ∷ ys))
    go true ih = Memᴰ.tail ih
    go false ih = Memᴰ.head refl

pub insert_keeps : (x y : Notice) (l : List Notice) → Memᴰ x l → Memᴰ x (insert y l)
unfolding insert
insert_keeps x y [] m = absurd (Memᴰ.not-nil m)
insert_keeps x y (z ∷ zs) m = go (z.number below y.number) (Memᴰ.cases_cons m) (insert_keeps x y zs)
  where
    go : (b : Bool) → (x ≡ z) ⊎ Memᴰ x zs → (Memᴰ x zs → Memᴰ x (insert y zs)) → Memᴰ x (cond b (z ∷ insert y zs) (y ∷ z ∷ zs))
    go true (inl e) ih = Memᴰ.head e
    go true (inr w) ih = Memᴰ.tail (ih w)
    go false w ih = Memᴰ.tail m

pub insert_member : (x y : Notice) (l : List Notice) → Memᴰ x (insert y l) → (x ≡ y) ⊎ Memᴰ x l
unfolding insert
insert_member x y [] m = Memᴰ.cases_cons m
insert_member x y (z ∷ zs) m = go (z.number below y.number) m (insert_member x y zs)
  where
    further : (x ≡ y) ⊎ Memᴰ x zs → (x ≡ y) ⊎ Memᴰ x (z ∷ zs)
    further (inl e) = inl e
    further (inr w) = inr (Memᴰ.tail w)

    go : (b : Bool) → Memᴰ x (cond b (z ∷ insert y zs) (y ∷ z ∷ zs)) → (Memᴰ x (insert y zs) → (x ≡ y) ⊎ Memᴰ x zs) → (x ≡ y) ⊎ Memᴰ x (z ∷ zs)
    go true h ih = ⊎_elim (λ e. inr (Memᴰ.head e)) (λ w. further (ih w)) (Memᴰ.cases_cons h)
    go false h ih = Memᴰ.cases_cons h

pub insert_length : (x : Notice) (l : List Notice) → length (insert x l) ≡ suc (length l)
unfolding insert
insert_length x [] = refl
insert_length x (y ∷ ys) = go (y.number below x.number) (insert_length x ys)
  where
    go : (b : Bool) → length (insert x ys) ≡ suc (length ys) → length (cond b (y ∷ insert x ys) (x ∷ y ∷ ys)) ≡ suc (suc (length ys))
    go true ih = ap suc ih
    go false ih = refl

pub insert_filed : (bad : Notice → Bool) (m : ℕ) (x : Notice) (l : List Notice)
    → Filed bad m l → m < x.number → bad x ≡ false → stands x.number l ≡ false → Filed bad m (insert x l)
unfolding insert Filed
insert_filed bad m x [] f h u s = (h, u, tt)
insert_filed bad m x (y ∷ ys) f h u s = go (dec_lt y.number x.number) (ℕ_discrete y.number x.number) (insert_filed bad y.number x ys f.2)
  where
    go : Dec (y.number < x.number) → Dec (y.number ≡ x.number)
        → (y.number < x.number → bad x ≡ false → stands x.number ys ≡ false → Filed bad y.number (insert x ys))
        → Filed bad m (insert x (y ∷ ys))
    go (yes t) e ih = rw (lt-ltb y.number x.number t) (f.0, f.1, ih t u (rw (ne_eqb y.number x.number (λ q. omega arith)) at s))
    go (no t) (yes e) ih = absurd (true≢false (rw (eq-eqb y.number x.number e) at s))
    go (no t) (no e) ih = rw (le-ltb y.number x.number (omega arith)) (h, u, (omega arith, f.1, f.2))

-- a notice that comes before all others is inserted first
insert_first : (bad : Notice → Bool) (m : ℕ) (x : Notice) (l : List Notice) → Filed bad m l → x.number ≤ m → insert x l ≡ x ∷ l
unfolding insert Filed
insert_first bad m x [] f h = refl
insert_first bad m x (y ∷ ys) f h = let g = f.0 in rw (le-ltb y.number x.number (omega arith))

-- those that a test picks, of notices by rising number
module _ (test bad : Notice → Bool) where
  pub those_filed : (m : ℕ) (l : List Notice) → Filed bad m l → Filed bad m (those test l)
  unfolding Filed
  those_filed m [] f = tt
  those_filed m (y ∷ ys) f = go (test y) (those_filed y.number ys f.2)
    where
      go : (b : Bool) → Filed bad y.number (those test ys) → Filed bad m (cond b (y ∷ those test ys) (those test ys))
      go true ih = (f.0, f.1, ih)
      go false ih = let g = f.0 in filed_lower bad m y.number (those test ys) (omega arith) ih

  -- inserting, and then picking
  pub those_insert : (m : ℕ) (x : Notice) (l : List Notice) → Filed bad m l → those test (insert x l) ≡ cond (test x) (insert x (those test l)) (those test l)
  unfolding insert Filed
  those_insert m x [] f = refl
  those_insert m x (y ∷ ys) f = go (dec_lt y.number x.number) (those_insert y.number x ys f.2)
    where
      rest : List Notice
      rest = those test ys

      behind : y.number < x.number → (a b : Bool) → those test (insert x ys) ≡ cond a (insert x rest) rest
          → cond b (y ∷ those test (insert x ys)) (those test (insert x ys)) ≡ cond a (insert x (cond b (y ∷ rest) rest)) (cond b (y ∷ rest) rest)
      behind t true true ih = rw (lt-ltb y.number x.number t) (ap (λ (zs : List Notice). y ∷ zs) ih)
      behind t false true ih = ap (λ (zs : List Notice). y ∷ zs) ih
      behind t a false ih = ih

      before : x.number ≤ y.number → (a b : Bool)
          → cond a (x ∷ cond b (y ∷ rest) rest) (cond b (y ∷ rest) rest) ≡ cond a (insert x (cond b (y ∷ rest) rest)) (cond b (y ∷ rest) rest)
      before t true true = rw (le-ltb y.number x.number t)
      before t true false = sym (insert_first bad y.number x rest (those_filed y.number ys f.2) t)
      before t false b = refl

      go : Dec (y.number < x.number) → those test (insert x ys) ≡ cond (test x) (insert x rest) rest
          → those test (insert x (y ∷ ys)) ≡ cond (test x) (insert x (those test (y ∷ ys))) (those test (y ∷ ys))
      go (yes t) ih = rw (lt-ltb y.number x.number t) (behind t (test x) (test y) ih)
      go (no t) ih = rw (le-ltb y.number x.number (omega arith)) (before (omega arith) (test x) (test y))

-- what stands after a notice was withdrawn
pub without_keeps : (k : ℕ) (x : Notice) (l : List Notice) → Memᴰ x l → (x.number ≡ k → ⊥) → Memᴰ x (without k l)
without_keeps k x l m e = (those_exactly (other_than k) x l).1 (m, unequal e)

pub without_member : (k : ℕ) (x : Notice) (l : List Notice) → Memᴰ x (without k l) → Memᴰ x l × (x.number ≡ k → ⊥)
without_member k x l h =
    let w = (those_exactly (other_than k) x l).0 h in
    (w.0, λ e. true≢false (sym w.1 ∙ equal e))

pub without_length : (k : ℕ) (l : List Notice) → length (without k l) ≤ length l
without_length k l = those_length (other_than k) l

pub without_filed : (bad : Notice → Bool) (m k : ℕ) (l : List Notice) → Filed bad m l → Filed bad m (without k l)
without_filed bad m k l f = those_filed (other_than k) bad m l f

-- nothing changes where the number does not stand
pub without_none : (k : ℕ) (l : List Notice) → stands k l ≡ false → without k l ≡ l
without_none k l s = those_all (other_than k) l (λ x m. ap not ((none_exactly (numbered k) l).0 s x m))

-- withdrawing, and then picking
pub those_without : (test : Notice → Bool) (k : ℕ) (l : List Notice) → those test (without k l) ≡ without k (those test l)
those_without test k l = those_turned (other_than k) test l

-- two lists by rising number, the notices of one among those of the other
module _ (bad : Notice → Bool) where
  tail_within : (k : ℕ) (y z : Notice) (ys zs : List Notice) → Filed bad k (y ∷ ys) → y ≡ z → Within (y ∷ ys) (z ∷ zs) → Within ys zs
  unfolding Filed
  tail_within k y z ys zs f e sub x h =
      ⊎_elim
      (λ q. let r = all_above bad y.number ys x f.2 h in let p = ap (λ (w : Notice). w.number) (q ∙ sym e) in absurd (omega arith))
      (λ w. w)
      (Memᴰ.cases_cons (sub x (Memᴰ.tail h)))

  pub within_length : (s t : List Notice) (j k : ℕ) → Filed bad j s → Filed bad k t → Within t s → length t ≤ length s
  unfolding Filed
  within_length s [] j k g f sub = omega arith
  within_length [] (y ∷ ys) j k g f sub = absurd (Memᴰ.not-nil (sub y (Memᴰ.head refl)))
  within_length (z ∷ zs) (y ∷ ys) j k g f sub =
      ⊎_elim
      (λ e. let i = within_length zs ys z.number y.number g.2 f.2 (tail_within k y z ys zs f e sub) in omega arith)
      (λ h. let i = within_length zs (y ∷ ys) z.number k g.2 f (passed h) in omega arith)
      (Memᴰ.cases_cons (sub y (Memᴰ.head refl)))
    where
      -- y comes after z, and so do all that come after y
      passed : Memᴰ y zs → Within (y ∷ ys) zs
      passed h x w =
          let r = all_above bad z.number zs y g.2 h in
          ⊎_elim
          (λ q.
          let p = ap (λ (v : Notice). v.number) q in
          ⊎_elim
          (λ e. let u = ap (λ (v : Notice). v.number) e in absurd (omega arith))
          (λ v. let u = all_above bad y.number ys x f.2 v in absurd (omega arith))
          (Memᴰ.cases_cons w))
          (λ v. v)
          (Memᴰ.cases_cons (sub x w))

  pub same_notices : (s t : List Notice) (j k : ℕ) → Filed bad j s → Filed bad k t → Within t s → Within s t → t ≡ s
  unfolding Filed
  same_notices [] [] j k g f sub sup = refl
  same_notices [] (y ∷ ys) j k g f sub sup = absurd (Memᴰ.not-nil (sub y (Memᴰ.head refl)))
  same_notices (z ∷ zs) [] j k g f sub sup = absurd (Memᴰ.not-nil (sup z (Memᴰ.head refl)))
  same_notices (z ∷ zs) (y ∷ ys) j k g f sub sup =
      ap₂ (λ (w : Notice) (ws : List Notice). w ∷ ws) first
      (same_notices zs ys z.number y.number g.2 f.2 (tail_within k y z ys zs f first sub) (tail_within j z y zs ys g (sym first) sup))
    where
      first : y ≡ z
      first =
          ⊎_elim
          (λ e. e)
          (λ h.
          let r = all_above bad z.number zs y g.2 h in
          ⊎_elim
          (λ e. sym e)
          (λ v. let u = all_above bad y.number ys z f.2 v in absurd (omega arith))
          (Memᴰ.cases_cons (sup z (Memᴰ.head refl))))
          (Memᴰ.cases_cons (sub y (Memᴰ.head refl)))
