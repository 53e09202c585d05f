use Rattle.std.proofs.Common.{length}
use Rattle.e3_places.proofs.changing.+ready_txns.Given as goal

abbrev pub decreases-ready_txns : goal.decreases-ready_txns
decreases-ready_txns l = length l.changes.now
