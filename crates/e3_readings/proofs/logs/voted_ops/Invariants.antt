use Rattle.std.proofs.Common.{◌≡◌, take}
use Rattle.std.specs.List.{flat_map}
use Rattle.e3_world.specs.Logs.{ops_of_vote}
use Rattle.e3_readings.proofs.logs.voted_ops.Given as goal

abbrev pub invariant-loop-r : goal.invariant-loop-r
invariant-loop-r l = l.out ≡ flat_map (ops_of_vote l.t) (take l.r-index l.log)
