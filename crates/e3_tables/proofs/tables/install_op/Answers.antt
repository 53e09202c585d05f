-- rows stay in byte order
use Rattle.std.proofs.Common.{◌≡◌, ap, sym, ◌∙◌, rules, arith, List, length, take, vec_len}
use Rattle.std.proofs.lemmas.Grind.{common_steps}
use Rattle.e3_types.specs.declared.transactions.Row.{Row}
use Rattle.e3_world.specs.Logs.{install_op, set_row}
use Rattle.e3_tables.proofs.Rows.{put_all, take_whole}
use Rattle.e3_tables.proofs.tables.install_op.Goals as goal

pub put_row-requires-clause-room : goal.put_row-requires-clause-room
put_row-requires-clause-room c =
    let items : List Row = c.args.rows.now.items in
    let n : c.len-count.result ≡ length items = search rules in
    let l : vec_len c.args.rows.now ≡ length items = search rules in
    let all : take c.len-count.result items ≡ items = ap (λ k. take k items) n ∙ take_whole items in
    let set : length (set_row c.in-Some.row (take c.len-count.result items)) ≡ length (install_op items c.args.op.now) =
    ap (λ (r : List Row). length (set_row c.in-Some.row r)) all ∙ ap (λ (r : List Row). length r) (sym (c.in-Some.ensures items)) in
    omega (arith, set, n, l, c.requires.room)

pub returns-in-Some-clause-items : goal.returns-in-Some-clause-items
returns-in-Some-clause-items c =
    let items : List Row = c.args.rows.now.items in
    let n : c.len-count.result ≡ length items = search rules in
    let all : take c.len-count.result items ≡ items = ap (λ k. take k items) n ∙ take_whole items in
    let put = c.put_row.ensures.items in
    let set = c.in-Some.ensures items in
    grind (arith, common_steps, n, all, put, set)

pub returns-in-Some-clause-ordered : goal.returns-in-Some-clause-ordered
returns-in-Some-clause-ordered c =
    let n : c.len-count.result ≡ length c.args.rows.now.items = search rules in
    put_all c.args.rows.now.items c.put_row.new.rows.items c.len-count.result _ n c.put_row.ensures.items c.requires.ordered
