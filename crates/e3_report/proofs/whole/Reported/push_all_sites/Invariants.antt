use Rattle.std.specs.List.{flat_map}
use Rattle.e3_world.specs.Packets.{sites_to}
use Rattle.e3_report.specs.Walk.{site_by}
use Rattle.e3_report.specs.Pages.{Adds}
use Rattle.e3_report.proofs.whole.Reported.push_all_sites.Given as goal

abbrev pub invariant-loop-before : goal.invariant-loop-before
invariant-loop-before l = Adds l.initial.page l.page (flat_map (site_by l.self.history.now l.self.placed.now) (sites_to l.before))
