use Rattle.std.proofs.Common.{◌≡◌, ◌++◌, take}
use Rattle.e3_readings.specs.Places.{placed_at}
use Rattle.e3_readings.proofs.places.add_placed.Given as goal

abbrev pub invariant-loop-r : goal.invariant-loop-r
invariant-loop-r l = l.out ≡ l.initial.out ++ placed_at l.site (take l.r-index l.records)
