use Rattle.std.proofs.Common.{[]}
use Rattle.e3_places.specs.Standing.{waits_by}
use Rattle.e3_places.proofs.Looping.{flat_next}
use Rattle.e3_places.proofs.granting.waits.Goals as goal

pub loop-s-preserved : goal.loop-s-preserved
loop-s-preserved c =
    flat_next (waits_by []) c.as_slice-s-items.result.now c.loop-s.s-index c.s-item.result [] c.loop-s.out c.add_waiting.new.out c.loop-s-test.true c.s-item.is c.loop-s.invariant
    c.in_ok-add_waiting.ensures
