use Rattle.std.proofs.Common.{◌≡◌, drop}
use Rattle.e3_world.specs.Moves.{rows_at}
use Rattle.e3_report.proofs.tables.rows_at.Given as goal

abbrev pub invariant-loop-i : goal.invariant-loop-i
invariant-loop-i l = l.table ≡ rows_at l.site (drop l.i l.rows)
