use Rattle.std.proofs.Common.{◌∙◌, sym}
use Rattle.e3_world.specs.Lives.{incarnation_of}
use Rattle.e3_world.specs.Moves.{moves_of}
use Rattle.e3_judge.proofs.audit.Entered.{as_planned, took}
use Rattle.e3_judge.proofs.audit.stepping.take.Goals as goal

pub apply-requires-clause-of_site : goal.apply-requires-clause-of_site
apply-requires-clause-of_site c =
    c.ready.ensures.of_site (incarnation_of (moves_of c.args.prefix.now.scenario.now c.args.prefix.now.entries.now c.args.step.now.site)) c.requires.stands.stands c.in_ok-plan.ensures.of_site

pub returns-in-Ok-clause-made : goal.returns-in-Ok-clause-made
returns-in-Ok-clause-made c = λ yes.
    as_planned c.args.prefix.now.scenario.now c.args.prefix.now.entries.now c.args.step.now.site c.args.step.now.input.now c.in_ok-plan.plan.step c.args.step.now.sent
    c.args.step.now.records.now c.args.step.now.outs.now c.args.step.now.told.now c.in_ok-plan.ensures.made c.requires.sent
    (sym c.is_as_planned.ensures ∙ c.if-not-is_as_planned.false)

pub returns-in-Ok-clause-stands : goal.returns-in-Ok-clause-stands
returns-in-Ok-clause-stands c = λ yes.
    took c.args.prefix.now.scenario.now c.args.prefix.now.entries.now c.args.step.now.site c.args.step.now.input.now c.args.up.now c.ready.new.self c.apply.new.self c.in_ok-plan.plan.step
    c.requires.stands c.ready.ensures.stands c.in_ok-plan.ensures.made c.apply.ensures.stands
