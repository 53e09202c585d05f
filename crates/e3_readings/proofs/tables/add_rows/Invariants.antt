use Rattle.std.proofs.Common.{◌≡◌, ◌++◌, take}
use Rattle.e3_readings.proofs.tables.add_rows.Given as goal

abbrev pub invariant-loop-row : goal.invariant-loop-row
invariant-loop-row l = l.out ≡ l.initial.out ++ take l.row-index l.rows
