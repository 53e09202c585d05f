use Rattle.e3_places.specs.Keeping.{place_at}
use Rattle.e3_places.proofs.Logged.{votes_next}
use Rattle.e3_places.proofs.noting.put_votes.Goals as goal

pub loop-o-preserved : goal.loop-o-preserved
loop-o-preserved c = λ n.
    votes_next n (place_at c.args.names.now.entries n) (place_at c.loop-o.names.entries n) (place_at c.put_vote.new.names.entries n) c.args.t.now c.args.ops.now c.loop-o.o-index c.o-item.result
    c.voted.result c.loop-o-test.true c.o-item.is c.voted.ensures
    (c.loop-o.invariant n) (c.in_ok-put_vote.ensures n)
