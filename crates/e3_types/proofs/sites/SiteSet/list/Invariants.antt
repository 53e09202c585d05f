-- the sites so far
use Rattle.std.proofs.Common.{◌≡◌}
use Rattle.e3_types.proofs.sites.SiteSet.list.Given as goal

abbrev pub invariant-loop-site : goal.invariant-loop-site
invariant-loop-site l = l.out ≡ l.yielded
