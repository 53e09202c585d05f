-- the names so far
use Rattle.std.proofs.Common.{◌≡◌, ◌++◌, take}
use Rattle.e3_locks.proofs.names.add_names.Given as goal

abbrev pub invariant-loop-name : goal.invariant-loop-name
invariant-loop-name l = l.out ≡ l.initial.out ++ take l.name-index l.names
