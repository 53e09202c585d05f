use Rattle.std.proofs.Common.{◌≡◌, take, fold}
use Rattle.e3_world.specs.Items.{binding_by}
use Rattle.e3_readings.proofs.binding.bind.Given as goal

abbrev pub invariant-loop-entry : goal.invariant-loop-entry
invariant-loop-entry l = l.binding ≡ fold (binding_by l.scenario) l.fn.binding (take l.entry-index l.entries)
