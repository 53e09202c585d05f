use Rattle.std.proofs.Common.{◌≡◌, take, filter}
use Rattle.e3_types.specs.Sets.{has_site}
use Rattle.e3_readings.proofs.recovery_rounds.sites_in.Given as goal

abbrev pub invariant-loop-site : goal.invariant-loop-site
invariant-loop-site l = l.out ≡ filter (has_site l.set) (take l.site-index l.sites)
