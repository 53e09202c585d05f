use Rattle.std.proofs.Common.{◌≡◌, IfOk, subst}
use Rattle.e3_readings.specs.Opens.{open_in}
use Rattle.e3_site.proofs.Standing.{lists_open, opens_are}
use Rattle.e3_site.specs.SiteView.{SiteView, Stands}
use Rattle.e3_world.specs.Lives.{life_of}
use Rattle.e3_world.specs.declared.lives.Incarnation.{Incarnation}
use Rattle.e3_site.proofs.site.Site.open_txns.Goals as goal

pub returns-clause-listed : goal.returns-clause-listed
returns-clause-listed c =
    let seen : SiteView = record { weights = c.self.inside.weights; site = c.self.inside.site; inputs = c.self.inside.inputs; tables = c.self.inside.tables } in
    subst (λ (s : SiteView). IfOk c.open_with.result (λ txns. (now : Incarnation) → Stands now s → txns ≡ open_in s.site (life_of now))) c.self.view_is
    (opens_are seen c.open_with.result c.open_with.ensures)

pub returns-clause-stands : goal.returns-clause-stands
returns-clause-stands c =
    let seen : SiteView = record { weights = c.self.inside.weights; site = c.self.inside.site; inputs = c.self.inside.inputs; tables = c.self.inside.tables } in
    lists_open c.args.self.now c.open_with.result
    (subst (λ (s : SiteView). IfOk c.open_with.result (λ txns. (now : Incarnation) → Stands now s → txns ≡ open_in s.site (life_of now))) c.self.view_is
    (opens_are seen c.open_with.result c.open_with.ensures))
