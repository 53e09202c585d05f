use Rattle.std.proofs.Common.{◌≡◌, ◌++◌, take, filter}
use Rattle.e3_places.specs.Standing.{passes, cast_of}
use Rattle.e3_places.proofs.behind.add_cast_of.Given as goal

abbrev pub invariant-loop-r : goal.invariant-loop-r
invariant-loop-r l = l.out ≡ l.initial.out ++ filter (passes l.pick) (cast_of (take l.r-index l.records))
