-- the names that are left
use Rattle.std.proofs.Common.{length}
use Rattle.e3_locks.proofs.names.+put_name.Given as goal

abbrev pub decreases-put_name : goal.decreases-put_name
decreases-put_name l = length l.names.now
