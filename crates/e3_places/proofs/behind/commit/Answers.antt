use Rattle.e3_places.proofs.Looping.{committed_both}
use Rattle.e3_places.proofs.behind.commit.Goals as goal

pub returns : goal.returns
returns c =
    committed_both c.args.t.now c.args.votes.now c.args.cast.now c.args.was c.committed.result c.committed-2.result c.committed.ensures c.committed-2.ensures
