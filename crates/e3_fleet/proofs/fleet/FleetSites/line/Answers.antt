use Rattle.std.proofs.Common.{refl}
use Rattle.e3_fleet.specs.Fleets.{nodes_of}
use Rattle.e3_fleet.proofs.Going.{driver_call}
use Rattle.e3_fleet.proofs.Holding.{held_on}
use Rattle.e3_fleet.proofs.Numbers.{line_arms}
use Rattle.e3_fleet.proofs.fleet.FleetSites.line.Goals as goal
use Rattle.e3_types.specs.declared.entries.Act.TheVariants.{Line}
use Rattle.e3_wire.specs.Marks.{scenario_of}

pub returns-clause-on : goal.returns-clause-on
returns-clause-on g c =
    let gone = driver_call g.D.Disk.meaning c.other_entries_keep_nodes.ensures.nodes (λ d. g.met.D.Disk.counted d) c.args.self.now.held.shared c.enter_line.new.shared
    (record { owner = 0; act = Line c.args.number }) (nodes_of c.args.self.now.held.workers.items) c.enter_line.result c.requires.standing.fleet c.enter_line.ensures.stands c.enter_line.ensures.same refl (line_arms (scenario_of c.args.self.now.held.shared) c.args.number c.requires.no_stop)
    c.enter_line.ensures.entered c.enter_line.ensures.kept in
    record {
      stands = held_on g.D.Disk.meaning c.args.self.now.wire c.args.self.now.pass c.args.self.now.held.shared c.enter_line.new.shared
          (nodes_of c.args.self.now.held.workers.items) (nodes_of c.args.self.now.held.workers.items) c.requires.standing gone c.enter_line.ensures.grew;
      since = λ start was. gone.kept (nodes_of start.held.workers.items) was;
      scenario = gone.scenario;
      most = gone.most;
    }
