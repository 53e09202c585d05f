use Rattle.std.proofs.Common.{◌≡◌, ℕ, [], true, fold, IfOk, sym, subst}
use Rattle.e3_fleet.proofs.Unmanned.{up_within}
use Rattle.e3_fleet.proofs.fleet.FleetSites.open_txns.Goals as goal
use Rattle.e3_wire.specs.Marks.{entries_of, scenario_of}
use Rattle.e3_world.specs.Items.{add_txn, is_up_at, open_at}
use Rattle.e3_world.proofs.Guards.{up_some}

pub place-at-requires-clause-least : goal.place-at-requires-clause-least
place-at-requires-clause-least g c = up_some (scenario_of c.args.self.now.held.shared) (entries_of c.args.self.now.held.shared) c.args.site c.requires.standing.fleet.shared_stands.played.legal c.requires.up

pub place-at-requires-clause-exists : goal.place-at-requires-clause-exists
place-at-requires-clause-exists g c = up_within (scenario_of c.args.self.now.held.shared) (entries_of c.args.self.now.held.shared) c.args.site c.requires.standing.fleet.shared_stands.played.legal c.requires.up

pub open_txns_at-requires-clause-up : goal.open_txns_at-requires-clause-up
open_txns_at-requires-clause-up g c = subst (λ (s : ℕ). is_up_at (entries_of c.args.self.now.held.shared) s ≡ true) (sym c.place-at.ensures.is) c.requires.up

pub returns : goal.returns
returns g c = subst (λ (s : ℕ). IfOk c.open_txns_at.result (λ txns. txns ≡ fold add_txn [] (open_at (scenario_of c.args.self.now.held.shared) (entries_of c.args.self.now.held.shared) s))) c.place-at.ensures.is c.open_txns_at.ensures
