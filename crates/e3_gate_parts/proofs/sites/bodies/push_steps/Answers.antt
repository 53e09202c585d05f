use Rattle.e3_gate_parts.proofs.sites.bodies.push_steps.Goals.{in-Some+in_ok-push_step, in_default}
use Rattle.e3_gate_parts.proofs.sites.bodies.push_steps.Goals as goal

pub loop-entry-preserved : goal.loop-entry-preserved
loop-entry-preserved c = elim c.match-input_of.branch [
  | in-Some+in_ok-push_step w ↦ rw (w.site-is, w.since-is) w.in_ok-push_step.ensures
  | in_default w ↦ rw (w.site-is, w.since-is) c.loop-entry.invariant
]
