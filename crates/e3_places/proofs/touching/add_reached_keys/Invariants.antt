use Rattle.std.proofs.Common.{◌≡◌, ◌++◌, take, map}
use Rattle.e3_places.specs.Keeping.{txn_id}
use Rattle.e3_places.proofs.touching.add_reached_keys.Given as goal

abbrev pub invariant-loop-t : goal.invariant-loop-t
invariant-loop-t l = l.out ≡ l.initial.out ++ map txn_id (take l.t-index l.t-items)
