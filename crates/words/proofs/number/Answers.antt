use mathlib.Core.Path.{◌≡◌, refl, sym, ap, ◌∙◌}
use mathlib.Core.List.{[], ◌∷◌, ◌++◌, append-nil}
use Prim.Native.Nat.{ℕ, suc, ◌+◌, ◌-◌, ◌%◌}
use native.Mathlib.Omega.{arith}
use lib.ListN.{length-set}
use Rattle.printed.specs.Words.{decimal}
use Rattle.words.specs.LastDigits.{last_digits}
use Rattle.words.proofs.LastDigits.{digits_split, digits_none}
use Rattle.words.proofs.Writing.{wrote_none, wrote_before}
use Rattle.words.proofs.number.Goals as goal

pub loop-i-init : goal.loop-i-init
loop-i-init c =
    let a = c.args in
    let d = c.digits in
    let e = ap (λ (k : ℕ). last_digits k a.x) {x = a.at + d.result - a.at} {y = d.result} (omega arith) ∙ d.ensures.0 in
    (omega arith, refl, ([], append-nil _ ∙ e, wrote_none a.out.now (a.at + d.result) (omega arith)))

pub loop-i-preserved : goal.loop-i-preserved
loop-i-preserved c =
    let a = c.args in
    let v = c.loop-i in
    let w = v.invariant.2 in
    let fewer = ap (λ (k : ℕ). last_digits k v.rest ++ w.0) {x = suc (v.i - 1 - a.at)} {y = v.i - a.at} (omega arith) in
    let here : v.i ≡ v.i - 1 + 1 = omega arith in (
      omega arith,
      length-set v.out _ _ ∙ v.invariant.1,
      (
        (48 + v.rest % 10) ∷ w.0,
        sym (digits_split (v.i - 1 - a.at) v.rest w.0) ∙ fewer ∙ w.1,
        wrote_before a.out.now (v.i - 1) _ (omega arith) (rw here at w.2),
      ),
    )

pub returns : goal.returns
returns c =
    let a = c.args in
    let v = c.loop-i in
    let w = v.invariant.2 in
    let short = c.digits.ensures.1 in
    let here : v.i ≡ a.at = omega arith in
    let none = ap (λ (k : ℕ). last_digits k v.rest ++ w.0) {x = 0} {y = v.i - a.at} (omega arith) in
    let all : w.0 ≡ decimal a.x = sym (digits_none v.rest w.0) ∙ none ∙ w.1 in
    (rw (← all) (rw here at w.2), omega arith)
