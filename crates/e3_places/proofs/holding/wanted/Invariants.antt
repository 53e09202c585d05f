use Rattle.std.proofs.Common.{◌≡◌, take}
use Rattle.std.specs.List.{flat_map}
use Rattle.e3_places.specs.Standing.{wanted_by}
use Rattle.e3_places.proofs.holding.wanted.Given as goal

abbrev pub invariant-loop-s : goal.invariant-loop-s
invariant-loop-s l = l.out ≡ flat_map (wanted_by l.records) (take l.s-index l.s-items)
