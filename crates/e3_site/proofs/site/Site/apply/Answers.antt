use Rattle.std.proofs.Common.{ap, subst, sym, ◌∙◌}
use Rattle.e3_site.specs.past.Stepping.{HasRoom}
use Rattle.e3_site.specs.declared.past.tables.Behind.{Behind}
use Rattle.e3_site.proofs.Standing.{own_parts, plan_follows, stands_on, tables_on}
use Rattle.e3_site.specs.SiteView.{IsPlanOf, SiteView, Stands, with_step}
use Rattle.e3_world.specs.Lives.{life_of}
use Rattle.e3_world.specs.declared.lives.SiteStep.{SiteStep}
use Rattle.e3_site.proofs.site.Site.apply.Goals as goal

pub apply-requires-clause-are : goal.apply-requires-clause-are
apply-requires-clause-are c =
    own_parts (record { weights = c.self.inside.weights; site = c.self.inside.site; inputs = c.self.inside.inputs; tables = c.self.inside.tables })
    c.args.plan c.into_parts-step.result.0 c.into_parts-step.result.1 c.into_parts-step.ensures.step c.into_parts-step.ensures.behind
    (subst (λ (s : SiteView). IsPlanOf c.args.plan s) (sym c.self.view_is) c.requires.of_site)

pub apply-requires-clause-room : goal.apply-requires-clause-room
apply-requires-clause-room c =
    subst (λ (b : Behind). HasRoom c.self.inside.tables b) (sym c.into_parts-step.ensures.behind)
    (subst (λ (s : SiteView). HasRoom s.tables c.args.plan.behind) (sym c.self.view_is) c.requires.room)

pub returns-clause-stand : goal.returns-clause-stand
returns-clause-stand c = λ now i stands planned.
    subst (λ (m : SiteStep). Stands (with_step now m) (record { weights = c.self.inside.weights; site = c.self.inside.site; inputs = c.count_on-self-inside.result; tables = c.apply.new.tables })) c.into_parts-step.ensures.step
    (tables_on now c.into_parts-step.result.0 c.self.inside.site c.apply.new.tables
    (c.apply.ensures c.self.inside.site (life_of now) (subst (λ (s : SiteView). Stands now s) (sym c.self.view_is) stands)
    (plan_follows now c.args.self.now i c.into_parts-step.result.0 (c.into_parts-step.ensures.step ∙ planned))))

pub returns-clause-stands : goal.returns-clause-stands
returns-clause-stands c =
    let new : SiteView = record { weights = c.self.inside.weights; site = c.self.inside.site; inputs = c.count_on-self-inside.result; tables = c.apply.new.tables } in
    stands_on c.args.self.now new c.args.plan.step c.count_on-self-inside.result
    (ap (λ (s : SiteView). record s { inputs = c.count_on-self-inside.result; tables = c.apply.new.tables }) c.self.view_is) (λ now i stands planned.
    subst (λ (m : SiteStep). Stands (with_step now m) new) c.into_parts-step.ensures.step
    (tables_on now c.into_parts-step.result.0 c.self.inside.site c.apply.new.tables
    (c.apply.ensures c.self.inside.site (life_of now) (subst (λ (s : SiteView). Stands now s) (sym c.self.view_is) stands)
    (plan_follows now c.args.self.now i c.into_parts-step.result.0 (c.into_parts-step.ensures.step ∙ planned)))))
