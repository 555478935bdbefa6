-- What a pass from the last notice to the first judges and holds: whether the notices are by rising number and none is bad, and the lowest number of one that
-- a test picks.
use mathlib.Core.Path.{◌≡◌, refl, sym, ap, ◌∙◌}
use mathlib.Core.Bool.{Bool, true, false, ◌||◌, true≢false}
use mathlib.Core.List.{List, [], ◌∷◌}
use Prim.Native.Nat.{ℕ, zero, suc, ◌+◌, ◌-◌, ◌<◌}
use native.Mathlib.Omega.{arith}
use Rattle.std.specs.Prelude.{Option, Some, None, reverse}
use Rattle.std.proofs.lemmas.List.{length-reverse, get_or-reverse}
use lib.ListN.{length, drop, get_or}
use Rattle.table.specs.Checks.{◌not_below◌}
use Rattle.table.proofs.Checks.{one_of}
use Rattle.notices.specs.declared.Notice.{Notice}
use Rattle.notices.specs.Notices.{names}
use Rattle.standing.specs.Rising.{Filed, misfiled}
use Rattle.standing.proofs.Reading.{next, none_left}
use Rattle.standing.proofs.Filings.{filed_if}
use Rattle.standing.proofs.Lowest.{lowest_nothing}
use Rattle.book.specs.Standing.{stopper}
use Rattle.asked.specs.Lower.{held, first_number, out_of_order}
use Rattle.asked.proofs.Lower.{lower_first}

-- one of two tests holds where the other does
pub or_holds : (a : Bool) {b : Bool} → b ≡ true → (a || b) ≡ true
or_holds true e = refl
or_holds false e = e

or_nothing : (a : Bool) → (a || false || false) ≡ a
or_nothing true = refl
or_nothing false = refl

-- what the pass has come by when it has yielded k notices, the last k of the list
abbrev pub last : {A : Type 0} → ℕ → List A → List A
last k l = drop (length l - k) l

-- it yields the list in reverse, so with one more it has that notice and those that it had
pub last_more : {A : Type 0} (l : List A) (k m : ℕ) (x : A) → (k < length (reverse l)) × (x ≡ get_or (reverse l) k x) → m ≡ k + 1 → last m l ≡ x ∷ last k l
last_more {A} l k m x w e =
    let size = length-reverse l in
    let some = w.0 in
    let inside : k < length l = omega arith in
    let at : length l - m ≡ length l - 1 - k = omega arith in
    let on : length l - m + 1 ≡ length l - k = omega arith in
    next l x (length l - m) (omega arith)
    ∙ ap (λ (y : A). y ∷ drop (length l - m + 1) l) (ap (λ (i : ℕ). get_or l i x) at ∙ sym (get_or-reverse l k x inside) ∙ sym w.1)
    ∙ ap (λ (i : ℕ). x ∷ drop i l) on

pub last_none : {A : Type 0} (l : List A) → last 0 l ≡ []
last_none l = none_left l (length l - 0) (omega arith)

-- it has yielded all where none is left before them
pub none_before : {A : Type 0} (l : List A) (k : ℕ) → k ≡ length (reverse l) → length l - k ≡ 0
none_before l k e = let size = length-reverse l in omega arith

pub last_all : {A : Type 0} (l : List A) (k : ℕ) → k ≡ length (reverse l) → last k l ≡ l
last_all l k e = ap (λ (i : ℕ). drop i l) (none_before l k e)

-- over any test of what is bad
module _ (bad : Notice → Bool) where
  -- The notices from some place on, judged: they are filed after every number below that of the first of them, and after no other.
  abbrev pub Judged : Option ℕ → List Notice → Type 0
  Judged next l = (k : ℕ) → misfiled bad k l ≡ out_of_order k next

  -- where some are misfiled whatever comes before them, all are
  pub misfiled_from : (i : ℕ) (l : List Notice) → ((k : ℕ) → misfiled bad k (drop i l) ≡ true) → (k : ℕ) → misfiled bad k l ≡ true
  unfolding misfiled
  misfiled_from zero l h k = h k
  misfiled_from (suc i) [] h k = absurd (true≢false (sym (h 0)))
  misfiled_from (suc i) (x ∷ xs) h k = or_holds (k not_below x.number || bad x) (misfiled_from i xs h x.number)

  -- those after a notice are filed after it
  filed_from : (i : ℕ) (l : List Notice) (k : ℕ) (y : Notice) (ys : List Notice) → Filed bad k l → drop i l ≡ y ∷ ys → Filed bad y.number ys
  unfolding Filed
  filed_from zero l k y ys f e = let g : Filed bad k (y ∷ ys) = rw e at f in g.2
  filed_from (suc i) [] k y ys f e = let h : 0 ≡ suc (length ys) = ap length e in absurd (omega arith)
  filed_from (suc i) (x ∷ xs) k y ys f e = filed_from i xs x.number y ys f.2 e

  -- before the pass begins none is judged, and any number may come before none
  pub judged_none : (l : List Notice) → l ≡ [] → Judged None l
  unfolding misfiled
  judged_none l e k = ap (misfiled bad k) e

  -- a notice of a list, and those after it
  module _ (l : List Notice) (i : ℕ) (x : Notice) (after : List Notice) (from_it : drop i l ≡ x ∷ after) where
    -- where the notices are filed, those after it are filed after it
    pub filed_after : (k : ℕ) → Filed bad k l → Filed bad x.number after
    filed_after k f = filed_from i l k x after f from_it

    -- what is held with it is the number of the first that a test picks of it and those after it
    pub held_more : Filed bad x.number after → (test : Notice → Bool) (named : Bool) (found : Option ℕ) → named ≡ test x → found ≡ first_number test after
        → held named found x.number ≡ first_number test (drop i l)
    held_more f test named found t e =
        ap (λ (b : Bool). held b found x.number) t ∙ ap (λ (m : Option ℕ). held (test x) m x.number) e ∙ go (test x) refl ∙ sym (ap (first_number test) from_it)
      where
        go : (b : Bool) → test x ≡ b → held b (first_number test after) x.number ≡ first_number test (x ∷ after)
        go true t = rw t (ap Some (lower_first test bad x.number x.number after (omega arith) f))
        go false t = rw t refl

    -- where it is bad, the notices are misfiled
    pub bad_misfiled : bad x ≡ true → misfiled bad 0 l ≡ true
    unfolding misfiled
    bad_misfiled e = misfiled_from i l (λ k. ap (misfiled bad k) from_it ∙ one_of (k not_below x.number || bad x) (misfiled bad x.number after) (or_holds (k not_below x.number) e)) 0

    -- where those after it are judged, it is filed before them, or the notices are misfiled: where it is out of order before them,
    module _ (number : Option ℕ) (judged : Judged number after) where
      pub high_misfiled : out_of_order x.number number ≡ true → misfiled bad 0 l ≡ true
      unfolding misfiled
      high_misfiled h = misfiled_from i l (λ k. ap (misfiled bad k) from_it ∙ or_holds (k not_below x.number || bad x) (judged x.number ∙ h)) 0

      -- or bad itself
      pub here_misfiled : (out_of_order x.number number || bad x) ≡ true → misfiled bad 0 l ≡ true
      here_misfiled e = go (out_of_order x.number number) refl e
        where
          go : (high : Bool) → out_of_order x.number number ≡ high → (high || bad x) ≡ true → misfiled bad 0 l ≡ true
          go true h e = high_misfiled h
          go false h e = bad_misfiled e

      pub judged_more : out_of_order x.number number ≡ false → bad x ≡ false → Judged (Some x.number) (drop i l)
      unfolding misfiled
      judged_more h fit k = ap (misfiled bad k) from_it ∙ rw (fit, judged x.number, h) (or_nothing (k not_below x.number))

      pub filed_before : out_of_order x.number number ≡ false → Filed bad x.number after
      filed_before h = filed_if bad x.number after (judged x.number ∙ h)

      -- and what is held with it is the number of the first that a test picks from there on
      pub pass_more : out_of_order x.number number ≡ false → bad x ≡ false → (test : Notice → Bool) (named : Bool) (found : Option ℕ) → named ≡ test x → found ≡ first_number test after
          → Judged (Some x.number) (drop i l) × (held named found x.number ≡ first_number test (drop i l))
      pass_more h fit test named found t e = (judged_more h fit, held_more (filed_before h) test named found t e)

  -- what is judged down to the first notice
  pub judged_all : (number : Option ℕ) (i : ℕ) (l : List Notice) → i ≡ 0 → Judged number (drop i l) → misfiled bad 0 l ≡ out_of_order 0 number
  judged_all number i l e judged = ap (λ (m : ℕ). misfiled bad 0 (drop m l)) (sym e) ∙ judged 0

-- None is found before the pass begins, and all are found once it has come to the first notice: as a number or none, and as a number that is 0 for none.
pub none_yet : (n past : ℕ) (l : List Notice) → past ≡ length l → (i j c : ℕ)
    → (None ≡ first_number (λ x. names n x i j c) (drop past l)) × (0 ≡ stopper n (drop past l) i j c)
none_yet n past l h i j c =
    let e = none_left l past h in
    (sym (ap (first_number (λ x. names n x i j c)) e), sym (ap (λ (m : List Notice). stopper n m i j c) e ∙ lowest_nothing (λ x. names n x i j c)))

pub all_found : (n : ℕ) (l : List Notice) (left : ℕ) → left ≡ 0 → (i j c : ℕ)
    → (first_number (λ x. names n x i j c) (drop left l) ≡ first_number (λ x. names n x i j c) l) × (stopper n (drop left l) i j c ≡ stopper n l i j c)
all_found n l left e i j c = (ap (λ (m : ℕ). first_number (λ x. names n x i j c) (drop m l)) e, ap (λ (m : ℕ). stopper n (drop m l) i j c) e)
