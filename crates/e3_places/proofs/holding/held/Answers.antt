use Rattle.std.proofs.Common.{[]}
use Rattle.e3_places.specs.Standing.{held_by}
use Rattle.e3_places.proofs.Looping.{flat_next}
use Rattle.e3_places.proofs.holding.held.Goals as goal

pub loop-s-preserved : goal.loop-s-preserved
loop-s-preserved c =
    flat_next (held_by c.args.records.now) c.as_slice-s-items.result.now c.loop-s.s-index c.s-item.result [] c.loop-s.out c.add_held.new.out c.loop-s-test.true c.s-item.is
    c.loop-s.invariant c.in_ok-add_held.ensures
