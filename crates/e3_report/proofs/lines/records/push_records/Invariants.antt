use Rattle.std.proofs.Common.{take}
use Rattle.std.specs.List.{flat_map}
use Rattle.e3_report.specs.lines.Records.{record_lines}
use Rattle.e3_report.specs.Pages.{Adds}
use Rattle.e3_report.proofs.lines.records.push_records.Given as goal

abbrev pub invariant-loop-r : goal.invariant-loop-r
invariant-loop-r l = Adds l.initial.page l.page (flat_map (record_lines l.mark) (take l.r-index l.log))
