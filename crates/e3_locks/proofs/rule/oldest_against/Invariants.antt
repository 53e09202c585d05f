-- the oldest so far
use Rattle.std.proofs.Common.{◌≡◌, fold, take}
use Rattle.e3_types.specs.Locks.{against}
use Rattle.e3_locks.specs.OldestSoFar.{oldest_so_far}
use Rattle.e3_locks.proofs.rule.oldest_against.Given as goal

abbrev pub invariant-loop-lock : goal.invariant-loop-lock
invariant-loop-lock l = l.oldest ≡ fold oldest_so_far l.fn.so_far (against l.wanted (take l.lock-index l.locks))
