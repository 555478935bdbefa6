use mathlib.Core.Path.{◌≡◌, refl, ap, ◌∙◌}
use Prim.Native.Nat.{ℕ, ◌+◌}
use native.Mathlib.Nat.{zero-add}
use native.Mathlib.Numerals.{add-one}
use native.Mathlib.Omega.{arith}
use borrow.Author.Rules.{rules}
use lib.ListN.{get_or, length-set}
use lib.Seq.{paste-zero, paste-suc}
use Rattle.fabric.specs.Labels.{bit}
use Rattle.printed.specs.Words.{bits_from}
use Rattle.printed.proofs.Decimals.{length_bits, bits_at}
use Rattle.words.proofs.Writing.{wrote_laid}
use Rattle.words.proofs.bits.Goals as goal

pub loop-i-init : goal.loop-i-init
loop-i-init c = (search rules, paste-zero c.args.out.now c.args.at (bits_from 0 c.args.count c.args.x), refl)

pub loop-i-preserved : goal.loop-i-preserved
loop-i-preserved c =
    let a = c.args in
    let v = c.loop-i in
    let whole = length_bits 0 a.count a.x in
    let here : get_or (bits_from 0 a.count a.x) v.i 0 ≡ 48 + bit v.i a.x =
    bits_at 0 a.count a.x v.i (omega arith) ∙ ap (λ (m : ℕ). 48 + bit m a.x) (zero-add v.i) in
    (omega arith, rw (v.invariant.1, add-one, ← here) (paste-suc a.out.now a.at (bits_from 0 a.count a.x) v.i 0 (omega arith) (omega arith)), length-set v.out _ _ ∙ v.invariant.2)

pub returns : goal.returns
returns c =
    let a = c.args in
    let v = c.loop-i in
    let whole = length_bits 0 a.count a.x in
    (wrote_laid a.out.now a.at (omega arith) {n = v.i} v.invariant.1 (omega arith) (omega arith), refl)
