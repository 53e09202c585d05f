use Rattle.e3_judge.proofs.audit.stepping.plan_at.Given as goal

abbrev pub ghost-plan : goal.ghost-plan
ghost-plan g a = g.now
