use Rattle.std.proofs.Common.{◌≡◌, ◌++◌, take, map}
use Rattle.e3_places.specs.Standing.{voted}
use Rattle.e3_places.proofs.touching.add_ops.Given as goal

abbrev pub invariant-loop-o : goal.invariant-loop-o
invariant-loop-o l = l.out ≡ l.initial.out ++ map (voted l.t) (take l.o-index l.ops)
