-- the set of the sites so far
use Rattle.std.proofs.Common.{◌≡◌, take}
use Rattle.e3_types.proofs.sites.SiteSet.joined.Given as goal

abbrev pub invariant-loop-site : goal.invariant-loop-site
invariant-loop-site l = l.set ≡ take l.site-index l.sites
