use Rattle.std.proofs.Common.{◌≡◌}
use Rattle.e3_world.specs.Packets.{sites_to}
use Rattle.e3_world.proofs.sites.sites_to.Given as goal

abbrev pub invariant-loop-site : goal.invariant-loop-site
invariant-loop-site l = l.sites ≡ sites_to l.site
