-- The header's refusal, or the entry over the book that the sheet makes.
use mathlib.Core.Path.{refl}
use Rattle.handed.proofs.Overs.{over_handed}
use Rattle.face.proofs.over_sheet.routes.Goals as goal

pub returns : goal.returns
returns c = over_handed c.in_ok-sound_book_of.ensures.ok refl c.routes.ensures
