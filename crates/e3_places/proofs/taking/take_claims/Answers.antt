use Rattle.std.proofs.Common.{ap, ◌∙◌, Option, unwrap_or}
use Rattle.e3_places.specs.declared.places.Claims.{Claims}
use Rattle.e3_places.specs.Keeping.{at_key, is_key, no_claims}
use Rattle.e3_places.proofs.Turning.{others_at}
use Rattle.e3_places.proofs.Putting.{keys_turned}
use Rattle.e3_places.proofs.taking.take_claims.Goals as goal

pub returns-in-Ok-clause-claims : goal.returns-in-Ok-clause-claims
returns-in-Ok-clause-claims c = c.unwrap_or.ensures ∙ ap (unwrap_or c.in-Ok.was) c.no_claims-in-Ok.ensures ∙ ap (λ (o : Option Claims). unwrap_or o no_claims) c.in-Ok.ensures.old

pub returns-in-Ok-clause-rest : goal.returns-in-Ok-clause-rest
returns-in-Ok-clause-rest c =
    others_at at_key is_key no_claims c.args.txns.now.entries c.insert.new.self.entries c.args.key c.no_claims.result (keys_turned c.args.key) c.in-Ok.ensures.updates.0
