use Rattle.std.proofs.Common.{◌≡◌, ◌++◌, take, map}
use Rattle.e3_places.specs.Keeping.{txn_id}
use Rattle.e3_places.proofs.touching.add_added_keys.Given as goal

abbrev pub invariant-loop-a : goal.invariant-loop-a
invariant-loop-a l = l.out ≡ l.initial.out ++ map (λ a. txn_id a.txn) (take l.a-index l.a-items)
