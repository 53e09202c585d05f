use Rattle.std.proofs.Common.{◌≡◌, [], take}
use Rattle.std.specs.List.{flat_map}
use Rattle.e3_places.specs.Standing.{waits_by}
use Rattle.e3_places.proofs.granting.waits.Given as goal

abbrev pub invariant-loop-s : goal.invariant-loop-s
invariant-loop-s l = l.out ≡ flat_map (waits_by []) (take l.s-index l.s-items)
