use Rattle.std.proofs.Common.{◌∙◌, [], arith}
use Rattle.e3_step.proofs.SoFar.{so_far_next}
use Rattle.e3_step.proofs.steps.settle_once.Goals as goal

pub handled-requires : goal.handled-requires
handled-requires g c =
    so_far_next (g.P.Past.at c.args.p.now) (record c.args.made.now { own = [] }) c.loop-m.made c.as_slice-m-items.result.now c.args.made.now.own c.loop-m.m-index
    c.m-item.result c.requires (c.as_slice-m-items.ensures ∙ c.replace-own.ensures.value) (omega arith) c.m-item.is c.loop-m.invariant
