use Rattle.std.proofs.Common.{take}
use Rattle.std.specs.List.{flat_map}
use Rattle.e3_report.specs.lines.Records.{op_line}
use Rattle.e3_report.specs.Pages.{Adds}
use Rattle.e3_report.proofs.lines.records.push_ops.Given as goal

abbrev pub invariant-loop-op : goal.invariant-loop-op
invariant-loop-op l = Adds l.initial.page l.page (flat_map (op_line l.mark) (take l.op-index l.ops))
