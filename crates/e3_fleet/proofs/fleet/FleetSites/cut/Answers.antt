use Rattle.e3_fleet.specs.Fleets.{nodes_of}
use Rattle.e3_fleet.proofs.Holding.{held_on}
use Rattle.e3_fleet.proofs.fleet.FleetSites.cut.Goals as goal
use Rattle.std.proofs.Common.{◌≡◌, ◌++◌, ◌∷◌, [], ℕ, sym, subst}
use Rattle.std.specs.Prelude.{OnOk}
use Rattle.e3_fleet.proofs.Unmanned.{up_within}
use Rattle.e3_types.specs.declared.entries.Act.TheVariants.{Cut}
use Rattle.e3_wire.specs.Marks.{entries_of, scenario_of}
use Rattle.e3_world.specs.Legal.{IsCut}
use Rattle.e3_world.proofs.Guards.{up_some}

pub place-at-requires-clause-least : goal.place-at-requires-clause-least
place-at-requires-clause-least g c = up_some (scenario_of c.args.self.now.held.shared) (entries_of c.args.self.now.held.shared) c.args.site c.requires.standing.fleet.shared_stands.played.legal c.requires.due.up

pub place-at-requires-clause-exists : goal.place-at-requires-clause-exists
place-at-requires-clause-exists g c = up_within (scenario_of c.args.self.now.held.shared) (entries_of c.args.self.now.held.shared) c.args.site c.requires.standing.fleet.shared_stands.played.legal c.requires.due.up

pub cut_at-requires-clause-due : goal.cut_at-requires-clause-due
cut_at-requires-clause-due g c = subst (λ (s : ℕ). IsCut (scenario_of c.args.self.now.held.shared) (entries_of c.args.self.now.held.shared) s) (sym c.place-at.ensures.is) c.requires.due

pub returns-clause-entered : goal.returns-clause-entered
returns-clause-entered g c = subst (λ (s : ℕ). OnOk c.cut_at.result (entries_of c.cut_at.new.self.shared ≡ entries_of c.args.self.now.held.shared ++ record { owner = s; act = Cut } ∷ [])) c.place-at.ensures.is c.cut_at.ensures.entered

pub returns-clause-on : goal.returns-clause-on
returns-clause-on g c = record {
  stands =
      held_on g.D.Disk.meaning c.args.self.now.wire c.args.self.now.pass c.args.self.now.held.shared c.cut_at.new.self.shared
      (nodes_of c.args.self.now.held.workers.items) (nodes_of c.cut_at.new.self.workers.items) c.requires.standing c.cut_at.ensures.went.on c.cut_at.ensures.went.grew;
  since = λ start was. c.cut_at.ensures.went.on.kept (nodes_of start.held.workers.items) was;
  scenario = c.cut_at.ensures.went.on.scenario;
  most = c.cut_at.ensures.went.on.most;
}
