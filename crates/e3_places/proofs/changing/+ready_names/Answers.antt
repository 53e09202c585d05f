use Rattle.e3_places.specs.Keeping.{at_name}
use Rattle.e3_places.proofs.Putting.{each_both, slice_parts}
use Rattle.e3_places.proofs.changing.+ready_names.Goals as goal

pub returns-in_ok-ready_names-in-len1-up-clause-ok : goal.returns-in_ok-ready_names-in-len1-up-clause-ok
returns-in_ok-ready_names-in-len1-up-clause-ok t c =
    each_both at_name (λ c. c.name) c.ready_name.result c.ready_names.new.names.entries c.ready_name.new.names.entries c.args.changes.now _ c.change-item.result
    (slice_parts c.args.changes.now c.change-item.result c.in-len1-up.len_at_least c.change-item.is) c.in_ok-ready_names-in-len1-up.ensures.ok c.ready_name.ensures.same.keys c.ready_name.ensures.ok
