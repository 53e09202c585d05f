use Rattle.std.proofs.Common.{drop}
use Rattle.e3_places.specs.Rising.{RowsStand}
use Rattle.e3_places.proofs.rising.add_rows.Given as goal

abbrev pub invariant-loop-i : goal.invariant-loop-i
invariant-loop-i l = RowsStand l.names.entries (drop l.i l.rows)
