use Rattle.std.proofs.Common.{take}
use Rattle.std.specs.List.{flat_map}
use Rattle.e3_report.specs.lines.Texts.{after_comma}
use Rattle.e3_report.specs.Pages.{Adds}
use Rattle.e3_report.proofs.lines.texts.push_commas.Given as goal

abbrev pub invariant-loop-number : goal.invariant-loop-number
invariant-loop-number l = Adds l.initial.page l.page (flat_map after_comma (take l.number-index l.more))
