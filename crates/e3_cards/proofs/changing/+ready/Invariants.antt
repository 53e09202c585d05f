use Rattle.std.proofs.Common.{length}
use Rattle.e3_cards.proofs.changing.+ready.Given as goal

abbrev pub decreases-ready : goal.decreases-ready
decreases-ready l = length l.changes.now
