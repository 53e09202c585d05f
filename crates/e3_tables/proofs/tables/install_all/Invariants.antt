-- the operations so far are installed, and there is room for the others
use Rattle.std.proofs.Common.{◌≡◌, ◌≤◌, take, vec_capacity}
use Rattle.e3_types.specs.Sorted.{IsAscending}
use Rattle.e3_tables.specs.Work.{installed}
use Rattle.e3_tables.proofs.tables.install_all.Given as goal

abbrev pub invariant-loop-op : goal.invariant-loop-op
invariant-loop-op l = record {
  items : l.rows.items ≡ installed (take l.op-index l.ops) l.initial.rows.items;
  ordered : IsAscending (λ row. row.name) l.rows.items;
  room : vec_capacity l.initial.rows ≤ vec_capacity l.rows;
}
