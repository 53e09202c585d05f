use Rattle.std.proofs.Common.{◌++◌, ap, map, ◌∙◌, List}
use Rattle.std.proofs.lemmas.Result.{on_ok_weaker}
use Rattle.e3_world.specs.declared.lives.Asked.{Asked}
use Rattle.e3_places.specs.declared.places.Claims.{Claims}
use Rattle.e3_places.specs.Standing.{voted}
use Rattle.e3_places.proofs.Logged.{claims_put}
use Rattle.e3_places.proofs.noting.add_votes_of.Goals as goal

pub returns : goal.returns
returns c =
    let was = c.in_ok-claims.claims in
    let turn : Claims → Claims = λ x. record x { votes = x.votes ++ map (voted c.args.t.now) c.args.ops.now } in
    on_ok_weaker c.put_claims.result
    (λ put. claims_put turn c.args.txns.now.entries c.take_claims.new.txns.entries c.put_claims.new.txns.entries c.args.t.now c.txn_id-key.result (record was { votes = c.add_ops.new.out })
    c.txn_id-key.ensures (ap (λ (l : List Asked). record was { votes = l }) c.in_ok-add_ops.ensures ∙ ap turn c.in_ok-claims.ensures.claims) c.in_ok-claims.ensures.rest put)
    c.put_claims.ensures
