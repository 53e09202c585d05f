use Rattle.e3_fleet.specs.Fleets.{nodes_of}
use Rattle.e3_fleet.proofs.Holding.{held_on}
use Rattle.e3_fleet.proofs.fleet.FleetSites.input.Goals as goal
use Rattle.std.proofs.Common.{◌≡◌, ℕ, true, sym, subst}
use Rattle.std.specs.Prelude.{OnOk}
use Rattle.e3_fleet.proofs.Unmanned.{up_within}
use Rattle.e3_play.specs.Entering.{AfterInput}
use Rattle.e3_wire.specs.Marks.{entries_of, scenario_of}
use Rattle.e3_world.specs.Items.{is_up_at}
use Rattle.e3_world.specs.Legal.{IsDue}
use Rattle.e3_world.proofs.Guards.{up_some}

pub place-at-requires-clause-least : goal.place-at-requires-clause-least
place-at-requires-clause-least g c = up_some (scenario_of c.args.self.now.held.shared) (entries_of c.args.self.now.held.shared) c.args.site c.requires.standing.fleet.shared_stands.played.legal c.requires.up

pub place-at-requires-clause-exists : goal.place-at-requires-clause-exists
place-at-requires-clause-exists g c = up_within (scenario_of c.args.self.now.held.shared) (entries_of c.args.self.now.held.shared) c.args.site c.requires.standing.fleet.shared_stands.played.legal c.requires.up

pub input_at-requires-clause-up : goal.input_at-requires-clause-up
input_at-requires-clause-up g c = subst (λ (s : ℕ). is_up_at (entries_of c.args.self.now.held.shared) s ≡ true) (sym c.place-at.ensures.is) c.requires.up

pub input_at-requires-clause-due : goal.input_at-requires-clause-due
input_at-requires-clause-due g c = subst (λ (s : ℕ). IsDue (scenario_of c.args.self.now.held.shared) (entries_of c.args.self.now.held.shared) s c.args.input) (sym c.place-at.ensures.is) c.requires.due

pub returns-clause-entered : goal.returns-clause-entered
returns-clause-entered g c = subst (λ (s : ℕ). OnOk c.input_at.result (AfterInput (scenario_of c.args.self.now.held.shared) (entries_of c.args.self.now.held.shared) s c.args.input (entries_of c.input_at.new.self.shared))) c.place-at.ensures.is c.input_at.ensures.entered

pub returns-clause-on : goal.returns-clause-on
returns-clause-on g c = record {
  stands =
      held_on g.D.Disk.meaning c.args.self.now.wire c.args.self.now.pass c.args.self.now.held.shared c.input_at.new.self.shared
      (nodes_of c.args.self.now.held.workers.items) (nodes_of c.input_at.new.self.workers.items) c.requires.standing c.input_at.ensures.went.on c.input_at.ensures.went.grew;
  since = λ start was. c.input_at.ensures.went.on.kept (nodes_of start.held.workers.items) was;
  scenario = c.input_at.ensures.went.on.scenario;
  most = c.input_at.ensures.went.on.most;
}
