-- the numbers that are left
use Rattle.std.proofs.Common.{length}
use Rattle.e3_types.proofs.sites.+ascends.Given as goal

abbrev pub decreases-ascends : goal.decreases-ascends
decreases-ascends l = length l.sites.now
