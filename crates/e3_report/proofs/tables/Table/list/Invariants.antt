use Rattle.std.proofs.Common.{◌≡◌, ◌++◌}
use Rattle.e3_report.specs.Tables.{rows_of}
use Rattle.e3_report.proofs.tables.Table.list.Given as goal

abbrev pub invariant-loop-name : goal.invariant-loop-name
invariant-loop-name l = l.out ++ rows_of l.name-iterator ≡ l.self
