use Rattle.std.proofs.Common.{◌≡◌, ◌++◌, take}
use Rattle.std.specs.List.{flat_map}
use Rattle.e3_places.specs.Touching.{decided_txns}
use Rattle.e3_places.proofs.touching.add_all_decided.Given as goal

abbrev pub invariant-loop-r : goal.invariant-loop-r
invariant-loop-r l = l.out ≡ l.initial.out ++ flat_map decided_txns (take l.r-index l.records)
