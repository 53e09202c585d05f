-- there is room for each operation
use Rattle.std.proofs.Common.{◌≡◌, ap, arith, List, length, take}
use Rattle.e3_types.specs.declared.transactions.NumOp.{NumOp}
use Rattle.e3_types.specs.declared.transactions.Row.{Row}
use Rattle.e3_world.specs.Logs.{install_op}
use Rattle.e3_tables.specs.Work.{installed}
use Rattle.e3_tables.proofs.Rows.{next_room}
use Rattle.e3_tables.proofs.tables.install_all.Goals as goal

pub install_op-requires-clause-room : goal.install_op-requires-clause-room
install_op-requires-clause-room c =
    let o : NumOp = c.op-item.result in
    let r = next_room c.args.ops.now c.loop-op.op-index o c.args.rows.now.items c.loop-op-test.true c.op-item.is in
    let l : length (install_op c.loop-op.rows.items o) ≡ length (install_op (installed (take c.loop-op.op-index c.args.ops.now) c.args.rows.now.items) o) =
    ap (λ (rows : List Row). length (install_op rows o)) c.loop-op.invariant.items in
    omega (arith, r, l, c.requires.room, c.loop-op.invariant.room)
