use Rattle.std.proofs.Common.{◌≡◌, take}
use Rattle.e3_world.specs.Items.{inputs_to}
use Rattle.e3_readings.proofs.inputs.inputs_to.Given as goal

abbrev pub invariant-loop-a : goal.invariant-loop-a
invariant-loop-a l = l.inputs ≡ inputs_to l.site (take l.a-index l.asked)
