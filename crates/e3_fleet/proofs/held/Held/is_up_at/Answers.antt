use Rattle.std.proofs.Common.{◌≡◌, ◌∙◌, length, Some, refl, ap}
use Rattle.std.specs.Prelude.{slice_get}
use Rattle.std.proofs.lemmas.Option.{slice_get_read}
use Rattle.e3_fleet.specs.Fleets.{nodes_of}
use Rattle.e3_fleet.proofs.Holding.{node_there}
use Rattle.e3_fleet.proofs.held.Held.is_up_at.Goals as goal
use Rattle.e3_wire.specs.Marks.{entries_of, scenario_of}
use Rattle.e3_world.specs.Items.{is_up_at}

pub returns : goal.returns
returns g c =
    let there : slice_get (nodes_of c.args.self.now.workers.items) c.args.at ≡ Some c.index.result.now.node =
    node_there c.args.self.now.workers.items c.args.at c.index.result.now (slice_get_read c.args.self.now.workers.items (length c.args.self.now.workers.items) c.args.at c.index.result.now refl c.requires.within c.index.ensures) in
    let seat = c.requires.standing.seated c.args.at c.index.result.now.node there in
    c.is_up.ensures.stands (scenario_of c.args.self.now.shared) (entries_of c.args.self.now.shared) seat.stands ∙ ap (is_up_at (entries_of c.args.self.now.shared)) seat.site
