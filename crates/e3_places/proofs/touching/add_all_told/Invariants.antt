use Rattle.std.proofs.Common.{◌≡◌, ◌++◌, take}
use Rattle.std.specs.List.{flat_map}
use Rattle.e3_places.specs.Touching.{told_txns}
use Rattle.e3_places.proofs.touching.add_all_told.Given as goal

abbrev pub invariant-loop-e : goal.invariant-loop-e
invariant-loop-e l = l.out ≡ l.initial.out ++ flat_map told_txns (take l.e-index l.events)
