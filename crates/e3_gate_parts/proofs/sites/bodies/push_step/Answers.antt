use Rattle.e3_gate_parts.proofs.Keeping.{made_here}
use Rattle.e3_gate_parts.proofs.sites.bodies.push_step.Goals as goal

pub done-requires-clause-made : goal.done-requires-clause-made
done-requires-clause-made c =
    made_here c.args.rose.now c.as_slice.result.now c.args.since.now c.args.site.now c.args.input.now c.in_ok-plan.plan.step c.in_ok-plan.ensures.made c.as_slice.ensures
