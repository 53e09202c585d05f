use Rattle.std.proofs.Common.{◌≡◌, drop}
use Rattle.e3_world.specs.Logs.{row_value}
use Rattle.e3_readings.proofs.tables.row_value.Given as goal

abbrev pub invariant-loop-row : goal.invariant-loop-row
invariant-loop-row l = row_value l.name (drop l.row-index l.rows) ≡ row_value l.name l.rows
