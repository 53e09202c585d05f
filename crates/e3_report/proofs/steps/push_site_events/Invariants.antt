use Rattle.std.proofs.Common.{take}
use Rattle.e3_report.specs.Steps.{site_events}
use Rattle.e3_report.specs.Pages.{Adds}
use Rattle.e3_report.proofs.steps.push_site_events.Given as goal

abbrev pub invariant-loop-e : goal.invariant-loop-e
invariant-loop-e l = Adds l.initial.page l.page (site_events (take l.e-index l.entries) l.site)
