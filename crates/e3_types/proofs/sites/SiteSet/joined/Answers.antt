-- the next site goes to the end of those so far
use Rattle.std.proofs.Common.{◌∙◌}
use Rattle.e3_types.proofs.SetSteps.{with_next_site}
use Rattle.e3_types.proofs.sites.SiteSet.joined.Goals as goal

pub loop-site-preserved : goal.loop-site-preserved
loop-site-preserved c =
    c.with-set.ensures ∙ with_next_site _ _ _ c.requires c.loop-site-test.true c.loop-site.invariant
