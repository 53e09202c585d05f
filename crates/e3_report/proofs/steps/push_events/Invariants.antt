use Rattle.std.specs.List.{flat_map}
use Rattle.e3_world.specs.Packets.{sites_to}
use Rattle.e3_report.specs.Steps.{site_events}
use Rattle.e3_report.specs.Pages.{Adds}
use Rattle.e3_report.proofs.steps.push_events.Given as goal

abbrev pub invariant-loop-before : goal.invariant-loop-before
invariant-loop-before l = Adds l.initial.page l.page (flat_map (site_events l.entries) (sites_to l.before))
