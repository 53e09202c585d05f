use Rattle.std.specs.List.{flat_map}
use Rattle.e3_report.specs.lines.Texts.{after_comma}
use Rattle.e3_report.specs.Pages.{Adds}
use Rattle.e3_report.proofs.lines.texts.push_more_sites.Given as goal

abbrev pub invariant-loop-site : goal.invariant-loop-site
invariant-loop-site l = Adds l.initial.page l.page (flat_map after_comma l.yielded)
