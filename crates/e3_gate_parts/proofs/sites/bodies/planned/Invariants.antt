use Rattle.e3_gate_parts.proofs.sites.bodies.planned.Given as goal

abbrev pub ghost-plan : goal.ghost-plan
ghost-plan g a = g.now
