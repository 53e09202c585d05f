use Rattle.std.proofs.lemmas.Result.{on_ok_weaker}
use Rattle.e3_places.proofs.Logged.{cast_stands}
use Rattle.e3_places.proofs.noting.cast.Goals as goal

pub returns : goal.returns
returns c =
    on_ok_weaker c.add_votes_of.result
    (λ txns. cast_stands c.args.places.now (record c.args.places.now { names = c.put_votes.new.names; txns = c.add_votes_of.new.txns }) c.args.t.now c.args.ops.now c.in_ok-put_votes.ensures txns)
    c.add_votes_of.ensures
