-- A refusal leaves the memory as it was; the fields of a part that is read lie at the front of it.
use mathlib.Core.Path.{ap, ◌∙◌}
use native.Mathlib.Omega.{arith}
use Rattle.std.specs.Prelude.{Err}
use Rattle.std.proofs.lemmas.Result.{err_from_is_err_and}
use Rattle.field_reader.proofs.Writing.{fields_refused, room_enough}
use Rattle.field_reader.proofs.written.Goals as goal

pub returns-in_err-read_action : goal.returns-in_err-read_action
returns-in_err-read_action c =
    let p = err_from_is_err_and c.from_residual.result c.from_residual.ensures.1 in
    fields_refused c.in_err-read_action.ensures (p.1 ∙ ap Err p.2)

pub returns : goal.returns
returns c =
    room_enough c.in_ok-read_action.ensures (omega arith) c.fields-fields.ensures.0 c.from.ensures (c.copy_from_slice.ensures.after ∙ c.in_order.ensures)
