-- the weights that are left
use Rattle.std.proofs.Common.{length}
use Rattle.e3_quorum.proofs.weights.+range_fault.Given as goal

abbrev pub decreases-range_fault : goal.decreases-range_fault
decreases-range_fault l = length l.weights.now
