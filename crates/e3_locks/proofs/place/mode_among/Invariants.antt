-- the strongest mode so far
use Rattle.std.proofs.Common.{◌≡◌, take}
use Rattle.e3_locks.specs.Places.{mode_held}
use Rattle.e3_locks.proofs.place.mode_among.Given as goal

abbrev pub invariant-loop-lock : goal.invariant-loop-lock
invariant-loop-lock l = l.mode ≡ mode_held l.txn (take l.lock-index l.locks)
