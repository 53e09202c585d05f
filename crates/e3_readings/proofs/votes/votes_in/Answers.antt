-- one more step
use Rattle.e3_readings.proofs.Missing.{votes_more}
use Rattle.e3_readings.proofs.votes.votes_in.Goals as goal

pub loop-m-preserved : goal.loop-m-preserved
loop-m-preserved c =
    votes_more c.args.site c.args.t.now c.args.steps.now c.loop-m.m-index c.m-item.result c.loop-m.votes c.votes_after-votes.result c.as_slice.result.now
    c.loop-m-test.true c.m-item.is c.loop-m.invariant c.as_slice.ensures c.votes_after-votes.ensures
