-- those so far are the transaction's
use Rattle.std.proofs.Common.{◌≡◌, ◌≤◌, ◌-◌, length, drop}
use Rattle.std.specs.List.{between}
use Rattle.e3_locks.specs.Standing.{Each}
use Rattle.e3_locks.specs.Pairs.{key_of, AreFrom}
use Rattle.e3_locks.proofs.pairs.pairs_of.Given as goal

abbrev pub invariant-these : goal.invariant-these
invariant-these l = record {
  low : l.at ≤ l.end;
  high : l.end ≤ length l.pairs;
  of_txn : Each (λ p. key_of p.txn ≡ key_of l.t) (between l.at l.end l.pairs);
  from : AreFrom (key_of l.t) (drop l.end l.pairs);
}

abbrev pub decreases-these : goal.decreases-these
decreases-these l = length l.pairs - l.end
