use Rattle.std.proofs.Common.{◌≡◌, ◌++◌, take, map, filter}
use Rattle.e3_places.specs.Standing.{passes, voted}
use Rattle.e3_places.proofs.behind.add_cast.Given as goal

abbrev pub invariant-loop-o : goal.invariant-loop-o
invariant-loop-o l = l.out ≡ l.initial.out ++ filter (passes l.pick) (map (voted l.t) (take l.o-index l.ops))
