use Rattle.std.proofs.Common.{◌≡◌, ◌++◌, take, filter}
use Rattle.e3_places.specs.Standing.{is_left}
use Rattle.e3_places.proofs.behind.add_left.Given as goal

abbrev pub invariant-loop-a : goal.invariant-loop-a
invariant-loop-a l = l.out ≡ l.initial.out ++ filter (is_left l.records) (take l.a-index l.asked)
