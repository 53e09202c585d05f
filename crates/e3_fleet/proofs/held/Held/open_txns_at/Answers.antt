use Rattle.std.proofs.Common.{◌≡◌, ℕ, [], true, fold, length, IfOk, Some, refl, sym, subst}
use Rattle.std.specs.Prelude.{slice_get}
use Rattle.std.proofs.lemmas.Option.{slice_get_read}
use Rattle.e3_fleet.specs.Fleets.{nodes_of}
use Rattle.e3_fleet.proofs.Holding.{node_there}
use Rattle.e3_fleet.proofs.held.Held.open_txns_at.Goals as goal
use Rattle.e3_world.specs.Items.{add_txn, is_up_at, open_at}
use Rattle.e3_wire.specs.Marks.{entries_of, scenario_of}

pub returns : goal.returns
returns g c =
    let there : slice_get (nodes_of c.args.self.now.workers.items) c.args.at ≡ Some c.index.result.now.node =
    node_there c.args.self.now.workers.items c.args.at c.index.result.now (slice_get_read c.args.self.now.workers.items (length c.args.self.now.workers.items) c.args.at c.index.result.now refl c.requires.within c.index.ensures) in
    let seat = c.requires.standing.seated c.args.at c.index.result.now.node there in
    subst (λ (s : ℕ). IfOk c.open_txns.result (λ txns. txns ≡ fold add_txn [] (open_at (scenario_of c.args.self.now.shared) (entries_of c.args.self.now.shared) s))) seat.site
    (c.open_txns.ensures.up (scenario_of c.args.self.now.shared) (entries_of c.args.self.now.shared) seat.stands
    (subst (λ (s : ℕ). is_up_at (entries_of c.args.self.now.shared) s ≡ true) (sym seat.site) c.requires.up))
