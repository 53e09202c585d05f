-- what the names so far get
use Rattle.std.proofs.Common.{◌≡◌, take}
use Rattle.std.specs.List.{flat_map}
use Rattle.e3_locks.specs.LockLists.{grants_on}
use Rattle.e3_locks.proofs.fronts.all_fronts.Given as goal

abbrev pub invariant-loop-name : goal.invariant-loop-name
invariant-loop-name l = l.out ≡ flat_map (grants_on l.t (record { held = l.held; queue = l.queue; room = 0 })) (take l.name-index l.name-items)
