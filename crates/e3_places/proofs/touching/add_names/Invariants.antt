use Rattle.std.proofs.Common.{◌≡◌, ◌++◌, take, map}
use Rattle.e3_places.specs.Touching.{name_of}
use Rattle.e3_places.proofs.touching.add_names.Given as goal

abbrev pub invariant-loop-a : goal.invariant-loop-a
invariant-loop-a l = l.out ≡ l.initial.out ++ map name_of (take l.a-index l.asked)
