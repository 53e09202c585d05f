use Rattle.std.proofs.Common.{arith, subst, sym, ◌<◌, length}
use Rattle.std.proofs.lemmas.Result.{IfOk-weaker}
use Rattle.e3_site.proofs.Steps.{steps_are_few}
use Rattle.e3_site.specs.SiteView.{Stands}
use Rattle.e3_world.specs.declared.lives.Incarnation.{Incarnation}
use Rattle.e3_judge.proofs.audit.Entered.{plan_made}
use Rattle.e3_judge.proofs.audit.stepping.plan_at.Goals as goal

pub plan-requires : goal.plan-requires
plan-requires g c =
    let few = steps_are_few c.args.prefix.now.scenario.now c.args.prefix.now.entries.now c.args._site in
    let room = c.in_ok-count_on.ensures in (
      subst (λ (i : Incarnation). Stands i c.args.up.now) (sym c.requires.1) c.requires.0.stands,
      subst (λ (i : Incarnation). length i.since < 4000000000) (sym c.requires.1) (omega (arith, few, room)),
    )

pub returns-clause-made : goal.returns-clause-made
returns-clause-made g c = IfOk-weaker c.plan.result _ _ (λ plan plans.
    plan_made c.args.prefix.now.scenario.now c.args.prefix.now.entries.now c.args._site c.args.up.now c.args.input.now g.now plan.step c.requires.0 c.requires.1 plans)
    c.plan.ensures.stands
