use Rattle.std.proofs.Common.{◌≡◌, drop}
use Rattle.e3_world.specs.Elections.{joined_in}
use Rattle.e3_readings.proofs.elections.joined_in.Given as goal

abbrev pub invariant-loop-r : goal.invariant-loop-r
invariant-loop-r l = joined_in l.t (drop l.r-index l.records) ≡ joined_in l.t l.records
