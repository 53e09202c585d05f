use Rattle.e3_node.proofs.drafts.prepare_by_turns.Given as goal

abbrev pub ghost-planned : goal.ghost-planned
ghost-planned g a = g.now
