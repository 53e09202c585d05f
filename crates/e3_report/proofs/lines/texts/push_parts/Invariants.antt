use Rattle.std.proofs.Common.{take}
use Rattle.std.specs.List.{flat_map}
use Rattle.e3_report.specs.lines.Texts.{after_bar}
use Rattle.e3_report.specs.Pages.{Adds}
use Rattle.e3_report.proofs.lines.texts.push_parts.Given as goal

abbrev pub invariant-loop-part : goal.invariant-loop-part
invariant-loop-part l = Adds l.initial.page l.page (flat_map after_bar (take l.part-index l.more))
