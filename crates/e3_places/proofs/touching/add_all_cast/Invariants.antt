use Rattle.std.proofs.Common.{◌≡◌, ◌++◌, take}
use Rattle.e3_places.specs.Standing.{cast_of}
use Rattle.e3_places.proofs.touching.add_all_cast.Given as goal

abbrev pub invariant-loop-r : goal.invariant-loop-r
invariant-loop-r l = l.out ≡ l.initial.out ++ cast_of (take l.r-index l.records)
