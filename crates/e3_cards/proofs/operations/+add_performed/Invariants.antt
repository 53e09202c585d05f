use Rattle.std.proofs.Common.{length}
use Rattle.e3_cards.proofs.operations.+add_performed.Given as goal

abbrev pub decreases-add_performed : goal.decreases-add_performed
decreases-add_performed l = length l.heard.now
