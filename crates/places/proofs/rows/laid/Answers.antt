use Rattle.std.proofs.Common.{sym, ap, ◌∙◌, arith, ℕ, ◌+◌, ◌*◌, ◌≡◌, add-one}
use native.Mathlib.Nat.{mul-zero, mul-suc}
use lib.ListN.{drop}
use Rattle.standing.specs.Rising.{filler}
use Rattle.actions.specs.Rows.{rows}
use Rattle.actions.proofs.Listings.{length_row, one_row_more}
use Rattle.places.proofs.rows.laid.Goals as goal

pub loop-x-init : goal.loop-x-init
unfolding rows
loop-x-init c =
    let none = sym (mul-zero c.args.each) in
    (none, ap (λ (k : ℕ). drop k c.args.memory.now) none)

pub loop-x-preserved : goal.loop-x-preserved
loop-x-preserved c =
    let a = c.args in
    let v = c.loop-x in
    let next : a.each * (v.x-index + 1) ≡ a.each * v.x-index + a.each = ap (λ (k : ℕ). a.each * k) (add-one v.x-index) ∙ mul-suc a.each v.x-index in (
      omega (arith, next, v.invariant.0),
      c.lay.ensures
          ∙ rw (c.filing-row.ensures, length_row a.each c.requires.0, v.invariant.1, v.invariant.0) (one_row_more a.each c.requires.0 a.notices.now v.x-index filler a.memory.now c.loop-x-test.true),
    )
