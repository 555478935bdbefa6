-- Laws of rows: a row has as many bytes as are asked for, at most eleven, and a row laid after the rows of the first i notices makes i + 1.
use mathlib.Core.Path.{◌≡◌, refl, sym, ap, ap₂, ◌∙◌}
use mathlib.Core.List.{List, [], ◌∷◌, ◌++◌, append_assoc, append-nil}
use Prim.Native.Nat.{ℕ, zero, suc, ◌+◌, ◌*◌, ◌≤◌, ◌<◌}
use native.Mathlib.Numerals.{add-one}
use native.Mathlib.Nat.{mul-zero, mul-suc, add_comm}
use native.Mathlib.Omega.{arith}
use lib.ListN.{length, take, drop, get_or, length-append}
use lib.Seq.{paste, take-suc, take_at, take_all, drop-append-add, drop-drop, length-take-le}
use Rattle.notices.specs.declared.Notice.{Notice}
use Rattle.notices.specs.declared.Target.{Target}
use Rattle.notices.specs.declared.Target.TheVariants.{Links, Switch, Pattern}
use Rattle.actions.specs.Layout.{filing_of, filing}
use Rattle.actions.specs.Rows.{rows}

eleven : (k : ℕ) (t : Target) (class : ℕ) → length (filing_of k t class) ≡ 11
eleven k (Links stage switch s) class = refl
eleven k (Switch column switch) class = refl
eleven k (Pattern stage value mask s) class = refl

-- "the eleven bytes of its filing": of every notice
pub length_filing : (x : Notice) → length (filing x) ≡ 11
length_filing x = eleven x.number x.target x.class

-- of which a row of eleven has all
pub whole_row : (x : Notice) → take 11 (filing x) ≡ filing x
whole_row x = let l = length_filing x in take_all 11 (filing x) (omega arith)

module _ (each : ℕ) (short : each ≤ 11) where
  one_more : (i : ℕ) → each * suc i ≡ each + each * i
  one_more i = mul-suc each i ∙ add_comm (each * i) each

  pub length_row : (x : Notice) → length (take each (filing x)) ≡ each
  length_row x = let l = length_filing x in length-take-le each (filing x) (omega arith)

  rows_append : (a b : List Notice) → rows each (a ++ b) ≡ rows each a ++ rows each b
  unfolding rows
  rows_append [] b = refl
  rows_append (x ∷ a) b = ap (λ (l : List ℕ). take each (filing x) ++ l) (rows_append a b) ∙ sym (append_assoc (take each (filing x)) (rows each a) (rows each b))

  pub length_rows : (l : List Notice) → length (rows each l) ≡ each * length l
  unfolding rows
  length_rows [] = sym (mul-zero each)
  length_rows (x ∷ l) = length-append (take each (filing x)) (rows each l) ∙ ap₂ ◌+◌ (length_row x) (length_rows l) ∙ sym (one_more (length l))

  -- "the eleven bytes of its filing", or ten: row i is the front of the filing action of notice i
  pub row_at : (l : List Notice) (d : Notice) (i : ℕ) → i < length l → take each (drop (each * i) (rows each l)) ≡ take each (filing (get_or l i d))
  unfolding rows
  row_at [] d i h = absurd (omega arith)
  row_at (x ∷ l) d zero h =
      ap (λ (k : ℕ). take each (drop k (take each (filing x) ++ rows each l))) (mul-zero each) ∙ take_at (take each (filing x)) (rows each l) each (length_row x)
  row_at (x ∷ l) d (suc i) h =
      let row : List ℕ = take each (filing x) in
      let e : each * suc i ≡ length row + each * i = one_more i ∙ ap (λ (k : ℕ). k + each * i) (sym (length_row x)) in
      ap (take each) (ap (λ (k : ℕ). drop k (row ++ rows each l)) e ∙ drop-append-add row (rows each l) (each * i)) ∙ row_at l d i (omega arith)

  rows_one : (x : Notice) → rows each (x ∷ []) ≡ take each (filing x)
  unfolding rows
  rows_one x = append-nil (take each (filing x))

  pub one_row_more : (ns : List Notice) (i : ℕ) (d : Notice) (m : List ℕ) → i < length ns
      → paste (rows each (take i ns) ++ drop (each * i) m) (each * i) (take each (filing (get_or ns i d))) each ≡ rows each (take (i + 1) ns) ++ drop (each * (i + 1)) m
  one_row_more ns i d m h =
      let x : Notice = get_or ns i d in
      let r : List ℕ = rows each (take i ns) in
      let s : List ℕ = take each (filing x) in
      let t = length_row x in
      let l : length r ≡ each * i = length_rows (take i ns) ∙ ap (λ (k : ℕ). each * k) (length-take-le i ns (omega arith)) in
      let before : take (each * i) (r ++ drop (each * i) m) ≡ r = take_at r (drop (each * i) m) (each * i) l in
      let row : take each s ≡ s = take_all each s (omega arith) in
      let next : each * (i + 1) ≡ each * i + each = ap (λ (k : ℕ). each * k) (add-one i) ∙ mul-suc each i in
      let rest : drop (each * i + each) (r ++ drop (each * i) m) ≡ drop (each * (i + 1)) m =
      ap (λ (k : ℕ). drop (k + each) (r ++ drop (each * i) m)) (sym l)
      ∙ drop-append-add r (drop (each * i) m) each
      ∙ drop-drop each (each * i) m
      ∙ ap (λ (k : ℕ). drop k m) (sym next) in
      let more : rows each (take (i + 1) ns) ≡ r ++ s =
      ap (λ (k : ℕ). rows each (take k ns)) (add-one i)
      ∙ ap (rows each) (take-suc ns i d h)
      ∙ rows_append (take i ns) (x ∷ [])
      ∙ ap (λ (y : List ℕ). r ++ y) (rows_one x) in
      ap₂ (λ (a b : List ℕ). a ++ take each s ++ b) before rest
      ∙ ap (λ (a : List ℕ). r ++ a ++ drop (each * (i + 1)) m) row
      ∙ ap (λ (a : List ℕ). a ++ drop (each * (i + 1)) m) (sym more)
