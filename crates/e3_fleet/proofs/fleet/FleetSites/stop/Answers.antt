use Rattle.e3_fleet.specs.Fleets.{nodes_of}
use Rattle.e3_fleet.proofs.Holding.{held_on}
use Rattle.e3_fleet.proofs.fleet.FleetSites.stop.Goals as goal
use Rattle.std.proofs.Common.{◌≡◌, ◌∷◌, [], ℕ, sym, subst}
use Rattle.e3_types.specs.declared.scenarios.Item.TheVariants as item
use Rattle.e3_wire.specs.Marks.{scenario_of}
use Rattle.e3_world.specs.Packets.{step_items}

pub stop_at-requires-clause-step : goal.stop_at-requires-clause-step
stop_at-requires-clause-step g c = subst (λ (s : ℕ). step_items (scenario_of c.args.self.now.held.shared) c.args.number ≡ item.Stop s c.args.calls c.args.leave ∷ []) (sym c.place-at.ensures.is) c.requires.step

pub returns-clause-on : goal.returns-clause-on
returns-clause-on g c = record {
  stands =
      held_on g.D.Disk.meaning c.args.self.now.wire c.args.self.now.pass c.args.self.now.held.shared c.stop_at.new.self.shared
      (nodes_of c.args.self.now.held.workers.items) (nodes_of c.stop_at.new.self.workers.items) c.requires.standing c.stop_at.ensures.went.on c.stop_at.ensures.went.grew;
  since = λ start was. c.stop_at.ensures.went.on.kept (nodes_of start.held.workers.items) was;
  scenario = c.stop_at.ensures.went.on.scenario;
  most = c.stop_at.ensures.went.on.most;
}
