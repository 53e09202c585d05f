use Rattle.e3_fleet.proofs.Holding.{nothing_added, taken_again}
use Rattle.e3_fleet.proofs.flying.taken_first.Goals as goal

pub returns-clause-taken : goal.returns-clause-taken
returns-clause-taken g c =
    taken_again c.args.wire c.args.pass c.take-shared.new.pass c.take-shared.result c.requires.all c.requires.last c.take-shared.ensures.turn c.take-shared.ensures.same
    c.take-shared.ensures.seen c.take-shared.ensures.grew c.take-shared.ensures.played

pub returns-clause-same : goal.returns-clause-same
returns-clause-same g c = nothing_added c.args.pass c.take-shared.result c.requires.all c.take-shared.ensures.grew
