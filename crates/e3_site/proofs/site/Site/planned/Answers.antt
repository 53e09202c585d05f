use Rattle.std.proofs.Common.{IfOk, ap, arith, subst, sym, ◌∙◌, ℕ, List}
use Rattle.e3_cards.proofs.Countable.{are_countable}
use Rattle.e3_readings.proofs.Counting.{life_steps}
use Rattle.e3_site.proofs.Standing.{few_planned, planned_is}
use Rattle.e3_site.specs.SiteView.{IsPlanOf, SiteView, Stands}
use Rattle.e3_world.specs.Lives.{life_of}
use Rattle.e3_world.specs.Steps.{step_of}
use Rattle.e3_site.proofs.site.Site.planned.Goals as goal

pub step_with-requires : goal.step_with-requires
step_with-requires g c = (subst (λ (s : SiteView). Stands g.now s) (sym c.self.view_is) c.requires.0, c.requires.1)

pub new-requires : goal.new-requires
new-requires g c =
    let stands = subst (λ (s : SiteView). Stands g.now s) (sym c.self.view_is) c.requires.0 in
    are_countable c.self.inside.site c.self.inside.tables.cards (life_of g.now) stands.cards_stand (let few = c.requires.1 in let same = life_steps g.now in omega (arith, few, same))

pub returns-clause-made : goal.returns-clause-made
returns-clause-made g c =
    planned_is g.now c.args.self.now c.args.input.now c.in_ok-made.made c.new.result
    (c.in_ok-made.ensures.made ∙ ap (λ (ws : List ℕ). step_of ws c.self.inside.site g.now c.args.input.now) c.as_slice.ensures
    ∙ ap (λ (s : SiteView). step_of s.weights s.site g.now c.args.input.now) c.self.view_is) c.new.ensures.kept

pub returns-clause-few : goal.returns-clause-few
returns-clause-few g c = few_planned c.args.input.now c.in_ok-made.made c.new.result c.in_ok-made.ensures.few c.new.ensures.kept

pub returns-clause-of_site : goal.returns-clause-of_site
returns-clause-of_site g c = subst (λ (s : SiteView). IfOk c.new.result (λ plan. IsPlanOf plan s)) c.self.view_is c.new.ensures.of_tables
