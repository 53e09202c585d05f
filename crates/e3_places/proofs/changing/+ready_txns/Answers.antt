use Rattle.e3_places.specs.Keeping.{at_key}
use Rattle.e3_places.proofs.Putting.{each_both, slice_parts}
use Rattle.e3_places.proofs.changing.+ready_txns.Goals as goal

pub returns-in_ok-ready_txns-in-len1-up-clause-ok : goal.returns-in_ok-ready_txns-in-len1-up-clause-ok
returns-in_ok-ready_txns-in-len1-up-clause-ok t c =
    each_both at_key (λ c. c.key) c.ready_txn.result c.ready_txns.new.txns.entries c.ready_txn.new.txns.entries c.args.changes.now _ c.change-item.result
    (slice_parts c.args.changes.now c.change-item.result c.in-len1-up.len_at_least c.change-item.is) c.in_ok-ready_txns-in-len1-up.ensures.ok c.ready_txn.ensures.same.keys c.ready_txn.ensures.ok
