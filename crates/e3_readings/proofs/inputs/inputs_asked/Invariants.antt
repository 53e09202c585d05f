use Rattle.std.proofs.Common.{◌≡◌, take}
use Rattle.std.specs.Prelude.{filter_map}
use Rattle.e3_readings.specs.Inputs.{input_with}
use Rattle.e3_readings.proofs.inputs.inputs_asked.Given as goal

abbrev pub invariant-loop-item : goal.invariant-loop-item
invariant-loop-item l = l.inputs ≡ filter_map (input_with l.bound.bound) (take l.item-index l.items)
