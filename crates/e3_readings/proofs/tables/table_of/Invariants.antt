use Rattle.std.proofs.Common.{◌≡◌, take, fold, []}
use Rattle.e3_world.specs.Logs.{table_by}
use Rattle.e3_readings.proofs.tables.table_of.Given as goal

abbrev pub invariant-loop-r : goal.invariant-loop-r
invariant-loop-r l = l.rows ≡ fold (table_by l.log) [] (take l.r-index l.log)
