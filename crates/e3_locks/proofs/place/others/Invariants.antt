-- those of others so far
use Rattle.std.proofs.Common.{◌≡◌, take}
use Rattle.e3_locks.specs.Places.{others_of}
use Rattle.e3_locks.proofs.place.others.Given as goal

abbrev pub invariant-loop-lock : goal.invariant-loop-lock
invariant-loop-lock l = l.out ≡ others_of l.t (take l.lock-index l.locks)
