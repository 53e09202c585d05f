use Rattle.std.proofs.Common.{length}
use Rattle.e3_site.proofs.past.opening.+add_all_known.Given as goal

abbrev pub decreases-add_all_known : goal.decreases-add_all_known
decreases-add_all_known g l = length l.sources.now
