-- Laws of writing: one text after another, a byte before a text, and a text laid byte by byte.
use mathlib.Core.Path.{◌≡◌, sym, ap, ap₂, ◌∙◌}
use mathlib.Core.List.{List, [], ◌∷◌, ◌++◌, append_assoc}
use Prim.Native.Nat.{ℕ, ◌+◌, ◌≤◌, ◌<◌}
use native.Mathlib.Nat.{add-zero, zero-add}
use native.Mathlib.Numerals.{add-one}
use native.Mathlib.Omega.{arith}
use lib.ListN.{length, take, drop, set, get_or, length-append, length-drop}
use lib.Seq.{paste, paste-zero, take_all, take_at, drop-append-add, drop-drop, length-take-le, take-suc, append_snoc, set_at}
use Rattle.words.specs.Wrote.{Wrote}

module _ (before : List ℕ) (at : ℕ) (fits : at ≤ length before) where
  -- what stands before the place after a text
  ahead : (text : List ℕ) → length (take at before ++ text) ≡ at + length text
  ahead text = let l = length-take-le at before fits in length-append (take at before) text ∙ omega arith

  -- one text and then another
  pub wrote_more : {a b between after : List ℕ} {p q : ℕ} → Wrote before at a between p → Wrote between p b after q → Wrote before at (a ++ b) after q
  wrote_more {a} {b} {between} {after} {p} {q} v w =
      let here : List ℕ = take at before ++ a in
      let rest : List ℕ = drop (at + length a) before in
      let e : between ≡ here ++ rest = v.leaves in
      let l : length here ≡ p = ahead a ∙ sym v.ends in
      let n : length (a ++ b) ≡ length a + length b = length-append a b in
      let front : take p between ≡ here = ap (take p) e ∙ take_at here rest p l in
      let back : drop (p + length b) between ≡ drop (at + length (a ++ b)) before =
      ap (drop (p + length b)) e
      ∙ ap (λ (k : ℕ). drop (k + length b) (here ++ rest)) (sym l)
      ∙ drop-append-add here rest (length b)
      ∙ drop-drop (length b) (at + length a) before
      ∙ ap (λ (k : ℕ). drop k before) {x = at + length a + length b} {y = at + length (a ++ b)} (omega arith) in
      record {
        leaves =
            w.leaves
            ∙ ap₂ (λ (x y : List ℕ). x ++ b ++ y) front back
            ∙ ap (λ (x : List ℕ). x ++ drop (at + length (a ++ b)) before) (append_assoc (take at before) a b);
        ends = let x = v.ends in let y = w.ends in omega arith;
      }

  -- nothing
  pub wrote_none : Wrote before at [] before at
  wrote_none = record { leaves = paste-zero before at []; ends = sym (add-zero at) }

  -- a whole text, laid byte by byte
  pub wrote_laid : {text after : List ℕ} {n next : ℕ} → after ≡ paste before at text n → n ≡ length text → next ≡ at + n → Wrote before at text after next
  wrote_laid {text} {after} {n} {next} e l f =
      record {
        leaves =
            e
            ∙ ap₂ (λ (x : List ℕ) (k : ℕ). take at before ++ x ++ drop (at + k) before) (take_all n text (omega arith)) l;
        ends = omega arith;
      }

  -- a text within the memory leaves it as long as it was
  pub wrote_length : {text after : List ℕ} {next : ℕ} → Wrote before at text after next → next ≤ length before → length after ≡ length before
  wrote_length {text} w within =
      let front = ahead text in
      let rest = length-drop (at + length text) before in
      let ends = w.ends in
      ap length w.leaves ∙ length-append (take at before ++ text) (drop (at + length text) before) ∙ omega arith

-- a byte before a text
pub wrote_before : (before : List ℕ) (i x : ℕ) {text after : List ℕ} {next : ℕ} → i < length before → Wrote before (i + 1) text after next → Wrote before i (x ∷ text) (set after i x) next
wrote_before before i x {text} {after} {next} within w =
    let front : List ℕ = take i before in
    let y : ℕ = get_or before i 0 in
    let rest : List ℕ = drop (i + length (x ∷ text)) before in
    let here : take (i + 1) before ≡ front ++ (y ∷ []) = ap (λ (k : ℕ). take k before) (add-one i) ∙ take-suc before i 0 within in
    let there : drop (i + 1 + length text) before ≡ rest = ap (λ (k : ℕ). drop k before) {x = i + 1 + length text} {y = i + length (x ∷ text)} (omega arith) in
    let e : after ≡ front ++ y ∷ (text ++ rest) =
    w.leaves
    ∙ ap₂ (λ (l m : List ℕ). l ++ text ++ m) here there
    ∙ append_assoc (front ++ (y ∷ [])) text rest
    ∙ append_snoc front y (text ++ rest) in
    record {
      leaves =
          ap (λ (l : List ℕ). set l i x) e
          ∙ set_at front y (text ++ rest) x i (length-take-le i before (omega arith))
          ∙ sym (append_assoc front (x ∷ text) rest);
      ends = let f = w.ends in omega arith;
    }

-- a text written at the front
pub wrote_front : {before text after : List ℕ} {next : ℕ} → Wrote before 0 text after next → after ≡ text ++ drop (length text) before
wrote_front {before} {text} w = w.leaves ∙ ap (λ (k : ℕ). text ++ drop k before) (zero-add (length text))
