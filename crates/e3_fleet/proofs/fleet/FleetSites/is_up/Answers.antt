use Rattle.std.proofs.Common.{length, rules, sym, ◌∙◌}
use Rattle.e3_fleet.proofs.Holding.{nodes_length}
use Rattle.e3_fleet.proofs.Unmanned.{past_all}
use Rattle.e3_fleet.proofs.fleet.FleetSites.is_up.Goals as goal
use Rattle.e3_wire.specs.Marks.{entries_of, scenario_of}

pub returns-then-site-len : goal.returns-then-site-len
returns-then-site-len g c =
    past_all (scenario_of c.args.self.now.held.shared) (entries_of c.args.self.now.held.shared) c.args.site (length c.args.self.now.held.workers.items)
    c.requires.fleet.shared_stands.played.legal (sym (nodes_length c.args.self.now.held.workers.items) ∙ c.requires.fleet.count) (search rules)
