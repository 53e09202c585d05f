-- the queue so far is in front, and the front goes on behind it
use Rattle.std.proofs.Common.{◌≡◌, ◌++◌, take, drop}
use Rattle.e3_types.specs.Locks.{front}
use Rattle.e3_locks.proofs.rule.front_length.Given as goal

abbrev pub invariant-loop-k : goal.invariant-loop-k
invariant-loop-k l = front l.holders l.queue ≡ take l.k l.queue ++ front (l.holders ++ take l.k l.queue) (drop l.k l.queue)
