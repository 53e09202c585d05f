use Rattle.std.proofs.Common.{length}
use Rattle.e3_gen.proofs.items.+add_operations.Given as goal

abbrev pub decreases-add_operations : goal.decreases-add_operations
decreases-add_operations l = length l.records.now
