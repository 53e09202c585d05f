use Rattle.e3_places.specs.Touching.{name_of, is_moved}
use Rattle.e3_places.proofs.Looping.{picked_next}
use Rattle.e3_places.proofs.touching.add_all_moved.Goals as goal

pub loop-s-preserved : goal.loop-s-preserved
loop-s-preserved c =
    picked_next (is_moved c.args.doings.now.records.now c.args.doings.now.events.now c.args.doings.now.outs.now) (λ s. name_of s.asked) c.args.standing.now c.loop-s.s-index c.s-item.result c.args.out.now c.loop-s.out
    c.add_moved.new.out c.loop-s-test.true c.s-item.is c.loop-s.invariant c.in_ok-add_moved.ensures
