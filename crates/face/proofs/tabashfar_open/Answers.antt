-- What open hands back, as a sheet.
use Rattle.written.proofs.Handing.{opened_sound}
use Rattle.face.proofs.tabashfar_open.Goals as goal

pub handed_back-requires : goal.handed_back-requires
handed_back-requires c = let o = c.open in λ done. opened_sound _ o.result o.ensures done

pub returns : goal.returns
returns c =
    (c.handed_back.result, c.handed_back.ensures _ _ _ c.open.ensures, c.told.ensures)
