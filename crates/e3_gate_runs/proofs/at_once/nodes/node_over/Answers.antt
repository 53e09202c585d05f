use Rattle.e3_gate_runs.proofs.at_once.nodes.node_over.Goals as goal

pub returns-in-Ok-clause-stands : goal.returns-in-Ok-clause-stands
returns-in-Ok-clause-stands c = c.down.ensures.stands c.args.scenario.now c.requires.weights c.requires.rows
