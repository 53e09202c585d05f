-- what stands before the one end comes before the name, what stands behind the other end behind it
use Rattle.std.proofs.Common.{◌≤◌, ◌-◌, length, take, drop}
use Rattle.e3_types.specs.Sorted.{AreUnder, AreOver}
use Rattle.e3_types.proofs.sorted.place_of.Given as goal

abbrev pub invariant-halves : goal.invariant-halves
invariant-halves g l = record {
  low : l.low ≤ l.high;
  high : l.high ≤ length l.items;
  under : AreUnder g.T.Named.name_of l.name (take l.low l.items);
  over : AreOver g.T.Named.name_of l.name (drop l.high l.items);
}

abbrev pub decreases-halves : goal.decreases-halves
decreases-halves g l = l.high - l.low
