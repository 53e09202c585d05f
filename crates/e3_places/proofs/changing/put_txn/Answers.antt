use Rattle.std.proofs.lemmas.Result.{on_ok_weaker}
use Rattle.e3_places.specs.Keeping.{at_key, is_key, no_claims}
use Rattle.e3_places.proofs.Putting.{put_result, keys_turned}
use Rattle.e3_places.proofs.changing.put_txn.Goals as goal

pub returns : goal.returns
returns c =
    let p = put_result at_key is_key no_claims c.insert.result c.args.txns.now.entries c.insert.new.self.entries c.args.change.key c.args.change.claims (keys_turned c.args.change.key)
    c.requires (on_ok_weaker c.insert.result (λ u. u.0) c.insert.ensures.updates) c.insert.ensures.absent in
    record { values = p.0; keys = p.1 }
