use Rattle.std.proofs.Common.{◌≡◌, ◌++◌, take, map}
use Rattle.std.specs.List.{flat_map}
use Rattle.e3_readings.specs.Requests.{lock_for}
use Rattle.e3_places.specs.Standing.{held_by}
use Rattle.e3_places.proofs.holding.held.Given as goal

abbrev pub invariant-loop-s : goal.invariant-loop-s
invariant-loop-s l = l.out ≡ flat_map (held_by l.records) (take l.s-index l.s-items)

abbrev pub invariant-loop-a : goal.invariant-loop-a
invariant-loop-a l = l.out ≡ l.initial.out ++ map lock_for (take l.a-index l.a-items)
