use Rattle.places.proofs.Placing.{placed}
use Rattle.places.proofs.place.Goals as goal

pub returns : goal.returns
returns c = placed c.args.k c.args.notices.now c.first_from.result c.unwrap_or.result c.first_from.ensures c.unwrap_or.ensures
