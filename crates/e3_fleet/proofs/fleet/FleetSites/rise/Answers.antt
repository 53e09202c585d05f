use Rattle.e3_fleet.specs.Fleets.{nodes_of}
use Rattle.e3_fleet.proofs.Holding.{held_on}
use Rattle.e3_fleet.proofs.fleet.FleetSites.rise.Goals as goal
use Rattle.std.proofs.Common.{ℕ, sym, subst}
use Rattle.std.specs.Prelude.{OnOk}
use Rattle.e3_play.specs.Entering.{AfterRise}
use Rattle.e3_wire.specs.Marks.{entries_of, scenario_of}
use Rattle.e3_world.specs.Legal.{IsRising}

pub place-at-requires-clause-exists : goal.place-at-requires-clause-exists
place-at-requires-clause-exists g c = c.requires.turn.exists

pub rise_at-requires-clause-turn : goal.rise_at-requires-clause-turn
rise_at-requires-clause-turn g c = subst (λ (s : ℕ). IsRising (scenario_of c.args.self.now.held.shared) (entries_of c.args.self.now.held.shared) s) (sym c.place-at.ensures.is) c.requires.turn

pub returns-clause-rose : goal.returns-clause-rose
returns-clause-rose g c = subst (λ (s : ℕ). OnOk c.rise_at.result (AfterRise (scenario_of c.args.self.now.held.shared) (entries_of c.args.self.now.held.shared) s (entries_of c.rise_at.new.self.shared))) c.place-at.ensures.is c.rise_at.ensures.rose

pub returns-clause-on : goal.returns-clause-on
returns-clause-on g c = record {
  stands =
      held_on g.D.Disk.meaning c.args.self.now.wire c.args.self.now.pass c.args.self.now.held.shared c.rise_at.new.self.shared
      (nodes_of c.args.self.now.held.workers.items) (nodes_of c.rise_at.new.self.workers.items) c.requires.standing c.rise_at.ensures.went.on c.rise_at.ensures.went.grew;
  since = λ start was. c.rise_at.ensures.went.on.kept (nodes_of start.held.workers.items) was;
  scenario = c.rise_at.ensures.went.on.scenario;
  most = c.rise_at.ensures.went.on.most;
}
