use Rattle.std.proofs.Common.{add-one, refl}
use Rattle.e3_readings.specs.Inputs.{input_with}
use Rattle.e3_readings.proofs.Planned.{planned_next}
use Rattle.e3_readings.proofs.inputs.inputs_asked.Goals as goal

pub loop-item-preserved : goal.loop-item-preserved
loop-item-preserved c =
    let next = planned_next (input_with c.args.bound.now.bound) c.args.items.now c.loop-item.item-index c.item-item.result c.loop-item-test.true c.item-item.is in
    rw (c.in_ok-add_input.ensures, c.loop-item.invariant, add-one, next) refl
