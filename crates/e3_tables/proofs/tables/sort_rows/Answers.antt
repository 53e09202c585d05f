-- one row more is in order
use Rattle.std.proofs.Common.{◌≡◌, ◌≤◌, ◌<◌, ◌+◌, ◌++◌, rules, arith, List, length, take, drop, vec_len, vec_capacity}
use Rattle.e3_types.specs.declared.transactions.Row.{Row}
use Rattle.e3_tables.specs.Work.{in_order}
use Rattle.e3_tables.proofs.Rows.{first_ascends, first_few, put_next, whole_length, all_ordered}
use Rattle.e3_tables.proofs.tables.sort_rows.Goals as goal

pub put_row-requires-clause-ordered : goal.put_row-requires-clause-ordered
put_row-requires-clause-ordered c =
    first_ascends c.args.rows.now.items c.rows.rows.items c.rows.taken c.rows.count c.rows.invariant.items c.rows.invariant.count c.remove-row.new.self.items c.remove-row.ensures.items

pub put_row-requires-clause-room : goal.put_row-requires-clause-room
put_row-requires-clause-room c =
    let few = first_few c.args.rows.now.items c.rows.rows.items c.rows.taken c.rows.count c.rows.invariant.items c.rows.invariant.count c.remove-row.new.self.items c.remove-row.result c.remove-row.ensures.items in
    let whole = whole_length c.args.rows.now.items c.rows.rows.items c.rows.taken c.rows.invariant.items in
    let lt : c.rows.taken < length c.args.rows.now.items = search rules in
    let l : vec_len c.rows.rows ≡ length c.rows.rows.items = search rules in
    let under : c.rows.count < vec_len c.rows.rows = omega (arith, whole, lt, l, c.rows.invariant.count) in
    let fits : vec_len c.rows.rows ≤ vec_capacity c.rows.rows = search rules in
    omega (arith, few, under, fits, c.remove-row.ensures.len, c.remove-row.ensures.capacity)

pub rows-preserved : goal.rows-preserved
rows-preserved c =
    let init : List Row = c.args.rows.now.items in
    let lt : c.rows.taken < length init = search rules in
    let items : c.put_row.new.rows.items ≡ in_order (take (c.rows.taken + 1) init) ++ drop (c.rows.taken + 1) init =
    put_next init c.rows.rows.items c.rows.taken c.rows.count c.rows.invariant.items c.rows.invariant.count c.remove-row.new.self.items c.put_row.new.rows.items c.remove-row.result
    lt c.remove-row.ensures.value c.remove-row.ensures.items c.put_row.ensures.items in
    let whole = whole_length init c.put_row.new.rows.items (c.rows.taken + 1) items in
    let l : c.len.result ≡ length c.put_row.new.rows.items = search rules in
    record {
      few = search rules;
      total = c.rows.invariant.total;
      items = items;
      count = omega (arith, whole, l, lt, c.rows.invariant.total);
    }

pub returns-clause-ordered : goal.returns-clause-ordered
returns-clause-ordered c =
    let le : length c.args.rows.now.items ≤ c.rows.taken = search rules in
    all_ordered c.args.rows.now.items c.rows.rows.items c.rows.taken c.rows.invariant.items le
