use Rattle.std.proofs.Common.{sym, ◌∙◌}
use Rattle.e3_places.specs.Keeping.{at_key, no_claims}
use Rattle.e3_places.proofs.Putting.{roomier_by, keys_eq}
use Rattle.e3_places.proofs.changing.ready_txn.Goals as goal

pub returns-in-Ok-clause-same : goal.returns-in-Ok-clause-same
returns-in-Ok-clause-same c =
    roomier_by at_key no_claims c.args.txns.now.entries c.insert.new.self.entries c.args.key c.no_claims.result keys_eq c.no_claims.ensures
    (sym c.if-contains_key.false ∙ c.contains_key.ensures) c.in-Ok.ensures.updates.0
