use Rattle.std.proofs.Common.{take}
use Rattle.e3_step.proofs.SoFar.{so_far_granted}
use Rattle.e3_step.proofs.grants.grant_all.Goals as goal

pub and_do-requires : goal.and_do-requires
and_do-requires g c =
    so_far_granted (g.P.Past.at c.args.p.now) (take c.loop-q.q-index c.args.asked.now) c.args.made.now c.loop-q.made c.loop-q.invariant c.requires
