use Rattle.e3_places.proofs.Putting.{are_changes}
use Rattle.e3_places.proofs.changing.changes_of.Goals as goal

pub returns : goal.returns
returns c =
    are_changes c.args.places.now c.args.new.now c.args.records.now c.args.events.now c.args.outs.now (record { names = c.in_ok-name_changes.field-0; txns = c.in_ok-txn_changes.field-0 })
    c.in_ok-name_changes.ensures c.in_ok-txn_changes.ensures
