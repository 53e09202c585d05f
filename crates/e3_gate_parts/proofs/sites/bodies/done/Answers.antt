use Rattle.std.proofs.Common.{ap, sym, ◌∙◌}
use Rattle.e3_gate_parts.proofs.Keeping.{kept}
use Rattle.e3_site.specs.SiteView.{SiteView, planned_step}
use Rattle.e3_gate_parts.proofs.sites.bodies.done.Goals as goal

pub apply-requires-clause-of_site : goal.apply-requires-clause-of_site
apply-requires-clause-of_site c =
    c.ready.ensures.of_site (record { rose = c.args._rose.now; since = c.args.since.now }) c.requires.stand c.requires.of_site

pub returns : goal.returns
returns c =
    kept c.push.result c.args._rose.now c.args.since.now c.push.new.self c.args.plan.step c.apply.result c.apply.new.self c.push.ensures.ok c.apply.ensures.step
    (c.apply.ensures.stand (record { rose = c.args._rose.now; since = c.args.since.now }) c.args._input.now
    (c.ready.ensures.stand (record { rose = c.args._rose.now; since = c.args.since.now }) c.requires.stand)
    (c.requires.made ∙ ap (λ (s : SiteView). planned_step (record { rose = c.args._rose.now; since = c.args.since.now }) s c.args._input.now) (sym c.ready.ensures.same)))
