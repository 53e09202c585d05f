use Rattle.std.proofs.Common.{take}
use Rattle.std.specs.List.{flat_map}
use Rattle.e3_report.specs.Pages.{Adds}
use Rattle.e3_report.proofs.lines.listed.push_each.Given as goal

abbrev pub invariant-loop-one : goal.invariant-loop-one
invariant-loop-one g l = Adds l.initial.page l.page (flat_map g.T.Lines.lines (take l.one-index l.listed))
