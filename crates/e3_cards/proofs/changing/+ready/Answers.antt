use Rattle.e3_cards.proofs.Putting.{ready_both, slice_parts}
use Rattle.e3_cards.proofs.changing.+ready.Goals as goal

pub returns-in_ok-ready-in-len1-up-clause-ok : goal.returns-in_ok-ready-in-len1-up-clause-ok
returns-in_ok-ready-in-len1-up-clause-ok t c =
    ready_both c.ready_one.result c.ready.new.map.entries c.ready_one.new.map.entries c.args.changes.now _ c.change-item.result c.txn_key.result c.txn_key.ensures
    (slice_parts c.args.changes.now c.change-item.result c.in-len1-up.len_at_least c.change-item.is) c.in_ok-ready-in-len1-up.ensures.ok c.ready_one.ensures.same.keys c.ready_one.ensures.ok
