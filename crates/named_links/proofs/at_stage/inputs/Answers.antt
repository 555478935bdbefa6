use Rattle.named_links.proofs.AtStage.{inputs_where}
use Rattle.named_links.proofs.at_stage.inputs.Goals as goal

pub returns : goal.returns
returns c = inputs_where c.args.fabric.n c.args.i c.args.switches c.args.switch c.landing.ensures.0 c.landing-2.ensures.0 c.set_of.ensures
