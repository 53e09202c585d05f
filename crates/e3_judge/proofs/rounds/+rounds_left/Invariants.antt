use Rattle.std.proofs.Common.{length}
use Rattle.e3_judge.proofs.rounds.+rounds_left.Given as goal

abbrev pub decreases-rounds_left : goal.decreases-rounds_left
decreases-rounds_left l = length l.rounds.now
