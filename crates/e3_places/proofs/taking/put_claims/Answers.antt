use Rattle.e3_places.specs.Keeping.{at_key, is_key, no_claims}
use Rattle.e3_places.proofs.Turning.{put_at}
use Rattle.e3_places.proofs.Putting.{keys_turned}
use Rattle.e3_places.proofs.taking.put_claims.Goals as goal

pub returns-in-Ok : goal.returns-in-Ok
returns-in-Ok c = put_at at_key is_key no_claims c.args.txns.now.entries c.insert.new.self.entries c.args.key c.args.claims (keys_turned c.args.key) c.in-Ok.ensures.updates.0
