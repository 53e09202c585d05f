-- what stands before the one end comes before the pair, what stands behind the other end behind it
use Rattle.std.proofs.Common.{◌≤◌, ◌-◌, ◌++◌, length, take, drop}
use Rattle.e3_types.specs.Sorted.{AreUnder, AreOver}
use Rattle.e3_locks.specs.Pairs.{key_of, pair_key}
use Rattle.e3_locks.proofs.pairs.place_of_pair.Given as goal

abbrev pub invariant-halves : goal.invariant-halves
invariant-halves l = record {
  low : l.low ≤ l.high;
  high : l.high ≤ length l.pairs;
  under : AreUnder pair_key (key_of l.txn ++ l.name) (take l.low l.pairs);
  over : AreOver pair_key (key_of l.txn ++ l.name) (drop l.high l.pairs);
}

abbrev pub decreases-halves : goal.decreases-halves
decreases-halves l = l.high - l.low
