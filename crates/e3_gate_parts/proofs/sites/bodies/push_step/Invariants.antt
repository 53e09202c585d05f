use Rattle.e3_gate_parts.proofs.sites.bodies.push_step.Given as goal

abbrev pub ghost-planned : goal.ghost-planned
ghost-planned a = record { rose = a._rose.now; since = a._since.now }
