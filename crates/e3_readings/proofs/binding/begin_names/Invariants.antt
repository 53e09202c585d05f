use Rattle.std.proofs.Common.{◌≡◌, take}
use Rattle.std.specs.List.{flat_map}
use Rattle.e3_world.specs.Items.{begin_name}
use Rattle.e3_readings.proofs.binding.begin_names.Given as goal

abbrev pub invariant-loop-item : goal.invariant-loop-item
invariant-loop-item l = l.names ≡ flat_map (begin_name l.site) (take l.item-index l.items)
