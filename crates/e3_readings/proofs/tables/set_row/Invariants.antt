use Rattle.std.proofs.Common.{◌≡◌, ◌++◌, drop}
use Rattle.e3_world.specs.Logs.{set_row}
use Rattle.e3_readings.proofs.tables.set_row.Given as goal

abbrev pub invariant-loop-i : goal.invariant-loop-i
invariant-loop-i l = l.out ++ set_row l.row (drop l.i l.rows) ≡ set_row l.row l.rows
