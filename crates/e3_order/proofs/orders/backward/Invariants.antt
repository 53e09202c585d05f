use Rattle.std.proofs.Common.{◌≡◌, drop}
use Rattle.e3_order.specs.Orders.{voters_of, backward}
use Rattle.e3_order.proofs.orders.backward.Given as goal

abbrev pub invariant-loop-at : goal.invariant-loop-at
invariant-loop-at l = record {
  later : l.later ≡ voters_of (drop l.at l.placed);
  found : l.found ≡ backward l.committed (drop l.at l.placed);
}
