use Rattle.std.proofs.Common.{arith}
use Rattle.e3_fleet.proofs.crew.rounds.ended.Goals as goal

pub returns-clause-well : goal.returns-clause-well
returns-clause-well g c = λ i d low.
    let end = c.loop-worker-test.false in
    c.loop-worker.invariant.well i d (omega (arith, low, end))
