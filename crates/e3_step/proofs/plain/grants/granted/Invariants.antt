use Rattle.std.proofs.Common.{◌≡◌, take}
use Rattle.std.specs.List.{flat_map}
use Rattle.e3_world.specs.Making.{granted_on}
use Rattle.e3_step.proofs.plain.grants.granted.Given as goal

abbrev pub invariant-loop-name : goal.invariant-loop-name
invariant-loop-name l = l.out ≡ flat_map (granted_on l.a l.made l.asked) (take l.name-index l.name-items)
