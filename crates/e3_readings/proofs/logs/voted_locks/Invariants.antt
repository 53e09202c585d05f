use Rattle.std.proofs.Common.{◌≡◌, take}
use Rattle.std.specs.List.{flat_map}
use Rattle.e3_world.specs.Logs.{vote_locks}
use Rattle.e3_readings.proofs.logs.voted_locks.Given as goal

abbrev pub invariant-loop-r : goal.invariant-loop-r
invariant-loop-r l = l.out ≡ flat_map (vote_locks l.name l.log) (take l.r-index l.log)
