use Rattle.e3_cards.proofs.Putting.{are_changes}
use Rattle.e3_cards.proofs.changing.changes.Goals as goal

pub returns : goal.returns
returns c =
    are_changes c.args.cards.now c.args.step.now c.begins_behind.result c.calls_behind.result c.in_ok-all_changes.field-0
    c.begins_behind.ensures c.calls_behind.ensures c.in_ok-all_changes.ensures
