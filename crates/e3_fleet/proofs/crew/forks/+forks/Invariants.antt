use Rattle.std.proofs.Common.{◌+◌, ◌-◌, ◌*◌, length}
use Rattle.e3_fleet.proofs.crew.forks.+forks.Given as goal

abbrev pub decreases-all_take : goal.decreases-all_take
decreases-all_take g l = 4 * length l.workers.now

abbrev pub decreases-both_take : goal.decreases-both_take
decreases-both_take g l = 4 * (length l.front.now + length l.back.now) - 1

abbrev pub decreases-both_take-there : goal.decreases-both_take-there
decreases-both_take-there g l = 4 * length l.front.now + 1

abbrev pub decreases-both_take-here : goal.decreases-both_take-here
decreases-both_take-here g l = 4 * length l.back.now + 1
