use Rattle.e3_places.proofs.Logged.{ends_on}
use Rattle.e3_places.proofs.noting.end_each.Goals as goal

pub loop-a-preserved : goal.loop-a-preserved
loop-a-preserved c =
    ends_on c.args.r.now c.args.names.now.entries c.loop-a.names.entries c.end_on.new.names.entries c.args.votes.now c.loop-a.a-index c.a-item.result c.loop-a-test.true c.a-item.is
    c.loop-a.invariant c.in_ok-end_on.ensures
