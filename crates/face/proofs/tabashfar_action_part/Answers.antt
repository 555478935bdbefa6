-- Its bytes at their place where the action is there, none at the front where it is not.
use Rattle.sheet.proofs.Promises.{start_there}
use Rattle.sheet.proofs.Sheets.{part_is_each}
use mathlib.Core.Path.{sym, ap, ap₂, ◌∙◌}
use Prim.Native.Nat.{ℕ, ◌+◌, ◌*◌}
use Rattle.face.proofs.tabashfar_action_part.Goals as goal

pub returns-in-Ok : goal.returns-in-Ok
returns-in-Ok c =
    let h = c.has_action.ensures in
    let e = c.in-Ok.is in
    let a = c.args in
    let each = c.each_in-each.ensures.0 in
    ap (λ (m : ℕ). m + 256 * (8 + m * a.k)) each ∙ ap₂ (λ (x y : ℕ). x + 256 * y) (sym (part_is_each a.sheet.now a.k (rw e at h))) (start_there h e)
