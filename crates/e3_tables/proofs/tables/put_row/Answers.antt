-- the row in its place
use Rattle.std.proofs.Common.{◌≡◌, ◌≤◌, ◌<◌, ◌+◌, subst, rules, arith, List, length, take, vec_len, vec_capacity}
use Rattle.e3_types.specs.declared.transactions.Row.{Row}
use Rattle.e3_world.specs.Logs.{set_row}
use Rattle.e3_types.specs.Sorted.{IsAt, IsGap}
use Rattle.std.specs.List.{insert}
use Rattle.std.specs.Prelude.{IsOk}
use Rattle.std.proofs.Common.{refl, slice_set}
use Rattle.std.proofs.lemmas.List.{length-take-le}
use Rattle.e3_tables.proofs.Rows.{row_name, put_found, put_gap, gap_length, at_bound, gap_bound}
use Rattle.e3_tables.proofs.tables.put_row.Goals as goal

pub index_mut-requires : goal.index_mut-requires
index_mut-requires c =
    let items : List Row = c.args.rows.now.items in
    let a : IsAt row_name c.args.row.name (take c.args.count items) c.in-Ok.at = subst (λ (l : List Row). IsAt row_name c.args.row.name (take c.args.count l) c.in-Ok.at) c.deref.ensures.value c.in-Ok.ensures in
    let lt : c.in-Ok.at < length items = at_bound items c.args.count c.in-Ok.at c.args.row.name a in
    let l : vec_len c.args.rows.now ≡ length items = search rules in
    omega (arith, lt, l)

pub insert-requires : goal.insert-requires
insert-requires c =
    let items : List Row = c.args.rows.now.items in
    let a : IsGap row_name c.args.row.name (take c.args.count items) c.in-Err.at = subst (λ (l : List Row). IsGap row_name c.args.row.name (take c.args.count l) c.in-Err.at) c.deref.ensures.value c.in-Err.ensures in
    let le : c.in-Err.at ≤ length items = gap_bound items c.args.count c.in-Err.at c.args.row.name a in
    let l : vec_len c.args.rows.now ≡ length items = search rules in
    omega (arith, le, l)

pub returns-in-Ok-clause-items : goal.returns-in-Ok-clause-items
returns-in-Ok-clause-items c =
    let items : List Row = c.args.rows.now.items in
    let a : IsAt row_name c.args.row.name (take c.args.count items) c.in-Ok.at = subst (λ (l : List Row). IsAt row_name c.args.row.name (take c.args.count l) c.in-Ok.at) c.deref.ensures.value c.in-Ok.ensures in
    put_found items (slice_set items c.in-Ok.at c.args.row) c.args.count c.in-Ok.at c.args.row a refl

pub returns-in-Err-clause-items : goal.returns-in-Err-clause-items
returns-in-Err-clause-items c =
    let items : List Row = c.args.rows.now.items in
    let a : IsGap row_name c.args.row.name (take c.args.count items) c.in-Err.at = subst (λ (l : List Row). IsGap row_name c.args.row.name (take c.args.count l) c.in-Err.at) c.deref.ensures.value c.in-Err.ensures in
    let l : vec_len c.args.rows.now ≡ length items = search rules in
    let under : c.args.count ≤ length items = omega (arith, l, c.requires.count) in
    let few : length (take c.args.count items) ≡ c.args.count = length-take-le c.args.count items under in
    let one : length (set_row c.args.row (take c.args.count items)) ≡ length (take c.args.count items) + 1 = gap_length (take c.args.count items) c.in-Err.at c.args.row a in
    let room : vec_len c.args.rows.now < vec_capacity c.args.rows.now = omega (arith, one, few, c.requires.count, c.requires.room) in
    let ok : IsOk c.insert.result = c.insert.ensures.succeeds room in
    let put : c.insert.new.self.items ≡ insert items c.in-Err.at c.args.row = search rules in
    put_gap items c.insert.new.self.items c.args.count c.in-Err.at c.args.row a put
