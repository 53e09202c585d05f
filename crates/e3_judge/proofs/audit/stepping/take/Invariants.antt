use Rattle.e3_world.specs.Lives.{incarnation_of}
use Rattle.e3_world.specs.Moves.{moves_of}
use Rattle.e3_judge.proofs.audit.stepping.take.Given as goal

abbrev pub ghost-plan_at : goal.ghost-plan_at
ghost-plan_at a = incarnation_of (moves_of a.prefix.now.scenario.now a.prefix.now.entries.now a._site)
