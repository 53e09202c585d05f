use Rattle.std.proofs.Common.{◌≡◌, length, sym, ◌∙◌, arith}
use Rattle.e3_fleet.proofs.Holding.{nodes_length}
use Rattle.e3_fleet.proofs.held.Held.place.Goals as goal
use Rattle.e3_wire.specs.Marks.{scenario_of}

pub returns-clause-within : goal.returns-clause-within
returns-clause-within g c =
    let all : length c.args.self.now.workers.items ≡ length (scenario_of c.args.self.now.shared).weights = sym (nodes_length c.args.self.now.workers.items) ∙ c.requires.standing.count in
    omega arith
