use Rattle.std.proofs.Common.{◌≡◌, take, fold}
use Rattle.e3_world.specs.Logs.{install_op}
use Rattle.e3_readings.proofs.tables.install.Given as goal

abbrev pub invariant-loop-o : goal.invariant-loop-o
invariant-loop-o l = l.rows ≡ fold install_op l.fn.first (take l.o-index l.ops)
