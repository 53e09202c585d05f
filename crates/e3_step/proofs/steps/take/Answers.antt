use Rattle.e3_step.proofs.SoFar.{so_far_nothing}
use Rattle.e3_step.proofs.steps.take.Goals as goal

pub on_message-requires : goal.on_message-requires
on_message-requires g c = so_far_nothing (g.P.Past.at c.args.p.now) c.args.made.now c.requires
