use Rattle.e3_node.proofs.drafts.planned.Given as goal

abbrev pub ghost-plan : goal.ghost-plan
ghost-plan g a = g.now
