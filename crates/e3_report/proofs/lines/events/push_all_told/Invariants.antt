use Rattle.std.proofs.Common.{take}
use Rattle.std.specs.List.{flat_map}
use Rattle.e3_report.specs.lines.Events.{told_line}
use Rattle.e3_report.specs.Pages.{Adds}
use Rattle.e3_report.proofs.lines.events.push_all_told.Given as goal

abbrev pub invariant-loop-told : goal.invariant-loop-told
invariant-loop-told l = Adds l.initial.page l.page (flat_map (told_line l.site) (take l.told-index l.events))
