-- the operations that are left
use Rattle.std.proofs.Common.{length}
use Rattle.e3_client.proofs.client.+unanswered_from.Given as goal

abbrev pub decreases-unanswered_from : goal.decreases-unanswered_from
decreases-unanswered_from l = length l.ops.now
