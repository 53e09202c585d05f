use Rattle.std.proofs.Common.{length}
use Rattle.e3_places.proofs.changing.+ready_names.Given as goal

abbrev pub decreases-ready_names : goal.decreases-ready_names
decreases-ready_names l = length l.changes.now
