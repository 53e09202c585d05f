use Rattle.std.proofs.Common.{refl}
use Rattle.e3_places.proofs.Risen.{act_alike}
use Rattle.e3_places.proofs.changing.ready.Goals as goal

pub returns-in_err-ready_names-clause-same : goal.returns-in_err-ready_names-clause-same
returns-in_err-ready_names-clause-same c = act_alike c.args.places.now _ c.args.changes.now c.ready_names.ensures.same.values (λ k. refl)

pub returns-clause-same : goal.returns-clause-same
returns-clause-same c = act_alike c.args.places.now _ c.args.changes.now c.ready_names.ensures.same.values c.ready_txns.ensures.same.values
