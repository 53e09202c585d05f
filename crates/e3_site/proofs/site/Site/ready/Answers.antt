use Rattle.std.proofs.Common.{OnOk, ap, subst, sym}
use Rattle.e3_site.specs.past.Stepping.{ActAlike, HasRoom}
use Rattle.e3_site.specs.declared.past.tables.Behind.{Behind}
use Rattle.e3_site.proofs.Standing.{own_still, stands_still}
use Rattle.e3_site.specs.SiteView.{SiteView, Stands}
use Rattle.e3_world.specs.Lives.{life_of}
use Rattle.e3_site.proofs.site.Site.ready.Goals as goal

pub returns-clause-stand : goal.returns-clause-stand
returns-clause-stand c = λ now stands.
    c.ready.ensures.same.stand c.self.inside.site (life_of now) (subst (λ (s : SiteView). Stands now s) (sym c.self.view_is) stands)

pub returns-clause-stands : goal.returns-clause-stands
returns-clause-stands c =
    let new : SiteView = record { weights = c.self.inside.weights; site = c.self.inside.site; inputs = c.self.inside.inputs; tables = c.ready.new.tables } in
    stands_still c.args.self.now new (ap (λ (s : SiteView). record s { tables = c.ready.new.tables }) c.self.view_is) (λ now stands.
    c.ready.ensures.same.stand c.self.inside.site (life_of now) (subst (λ (s : SiteView). Stands now s) (sym c.self.view_is) stands))

pub returns-clause-of_site : goal.returns-clause-of_site
returns-clause-of_site c =
    let new : SiteView = record { weights = c.self.inside.weights; site = c.self.inside.site; inputs = c.self.inside.inputs; tables = c.ready.new.tables } in
    own_still c.args.self.now new c.args.plan.now c.behind.result.now c.behind.ensures
    (subst (λ (s : SiteView). ActAlike s.tables c.ready.new.tables c.behind.result.now) c.self.view_is c.ready.ensures.same)

pub returns-clause-ok : goal.returns-clause-ok
returns-clause-ok c = subst (λ (b : Behind). OnOk c.ready.result (HasRoom c.ready.new.tables b)) c.behind.ensures c.ready.ensures.ok
