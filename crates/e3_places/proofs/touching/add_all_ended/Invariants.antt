use Rattle.std.proofs.Common.{◌≡◌, ◌++◌, take, map, filter}
use Rattle.e3_places.specs.Touching.{name_of}
use Rattle.e3_places.specs.Standing.{decided_in}
use Rattle.e3_places.proofs.touching.add_all_ended.Given as goal

abbrev pub invariant-loop-a : goal.invariant-loop-a
invariant-loop-a l = l.out ≡ l.initial.out ++ map name_of (filter (λ a. decided_in l.records a.txn) (take l.a-index l.votes))
