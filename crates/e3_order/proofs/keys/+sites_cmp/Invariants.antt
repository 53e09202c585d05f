-- the sites that are left
use Rattle.std.proofs.Common.{length}
use Rattle.e3_order.proofs.keys.+sites_cmp.Given as goal

abbrev pub decreases-sites_cmp : goal.decreases-sites_cmp
decreases-sites_cmp l = length l.left
