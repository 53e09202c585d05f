use Rattle.std.proofs.Common.{take}
use Rattle.std.specs.List.{flat_map}
use Rattle.e3_report.specs.lines.Records.{birth_row_line}
use Rattle.e3_report.specs.Pages.{Adds}
use Rattle.e3_report.proofs.lines.records.push_birth_rows.Given as goal

abbrev pub invariant-loop-row : goal.invariant-loop-row
invariant-loop-row l = Adds l.initial.page l.page (flat_map (birth_row_line l.mark) (take l.row-index l.rows))
