use Rattle.e3_cards.specs.Tables.{call_now, change_of}
use Rattle.e3_cards.proofs.Putting.{map_more}
use Rattle.e3_cards.proofs.changing.all_changes.Goals as goal

pub loop-t-preserved : goal.loop-t-preserved
loop-t-preserved c =
    map_more (change_of c.args.cards.now.site (call_now c.args.cards.now) c.args.cards.now.map.entries c.args.step.now) c.as_slice-t-items.result.now c.loop-t.t-index c.t-item.result c.loop-t.out c.push.new.self
    c.in_ok-change.change c.loop-t-test.true c.t-item.is c.loop-t.invariant c.in_ok-change.ensures c.in_ok-push.ensures.ok
