use Rattle.named_links.proofs.AtStage.{meant_where}
use Rattle.named_links.proofs.at_stage.meant.Goals as goal

pub returns : goal.returns
returns c = meant_where c.args.straight c.args.fork c.args.set c.set_of.ensures
