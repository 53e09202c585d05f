-- so many rows are in order, and the others stand behind them
use Rattle.std.proofs.Common.{◌≡◌, ◌≤◌, ◌-◌, ◌++◌, length, take, drop}
use Rattle.e3_tables.specs.Work.{in_order}
use Rattle.e3_tables.proofs.tables.sort_rows.Given as goal

abbrev pub invariant-rows : goal.invariant-rows
invariant-rows l = record {
  few : l.taken ≤ l.total;
  total : l.total ≡ length l.initial.rows.items;
  items : l.rows.items ≡ in_order (take l.taken l.initial.rows.items) ++ drop l.taken l.initial.rows.items;
  count : l.count ≡ length (in_order (take l.taken l.initial.rows.items));
}

abbrev pub decreases-rows : goal.decreases-rows
decreases-rows l = l.total - l.taken
