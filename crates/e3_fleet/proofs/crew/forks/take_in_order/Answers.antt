use Rattle.std.proofs.Common.{rules, subst}
use Rattle.std.specs.Prelude.{slice_index_or}
use Rattle.e3_fleet.specs.declared.crew.worker.Worker.{Worker}
use Rattle.e3_fleet.specs.crew.Forks.{HasTaken}
use Rattle.e3_fleet.proofs.crew.forks.take_in_order.Goals as goal

pub returns : goal.returns
returns g c i d h =
    let k = (c.for_each_mut.ensures i d h).1 in
    let e : HasTaken c.args.turn g.D.Disk.meaning c.args.works.now.wire.now k.argument.now k.after_call.now = search rules in
    subst (λ (y : Worker g.row.D.Denot). HasTaken c.args.turn g.D.Disk.meaning c.args.works.now.wire.now (slice_index_or c.args.workers.now i d) y) k.left
    (subst (λ (x : Worker g.row.D.Denot). HasTaken c.args.turn g.D.Disk.meaning c.args.works.now.wire.now x k.after_call.now) k.argument_is e)
