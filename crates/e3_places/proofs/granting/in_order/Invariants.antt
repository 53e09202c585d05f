use Rattle.std.proofs.Common.{◌≡◌, take}
use Rattle.e3_places.specs.Granting.{in_order}
use Rattle.e3_places.proofs.granting.in_order.Given as goal

abbrev pub invariant-loop-name : goal.invariant-loop-name
invariant-loop-name l = l.out ≡ in_order (take l.name-index l.names)
