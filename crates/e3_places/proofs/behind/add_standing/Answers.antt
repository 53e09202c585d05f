use Rattle.e3_places.specs.Standing.{again}
use Rattle.e3_places.proofs.Looping.{flat_next}
use Rattle.e3_places.proofs.behind.add_standing.Goals as goal

pub loop-s-preserved : goal.loop-s-preserved
loop-s-preserved c =
    flat_next (again c.args.doings.now.records.now c.args.doings.now.events.now c.args.doings.now.outs.now) c.args.was.now c.loop-s.s-index c.s-item.result c.args.out.now c.loop-s.out c.add_again.new.out
    c.loop-s-test.true c.s-item.is c.loop-s.invariant c.in_ok-add_again.ensures
