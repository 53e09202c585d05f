use Rattle.std.proofs.Common.{rules, subst}
use Rattle.std.specs.Prelude.{slice_index_or}
use Rattle.e3_gate_runs.specs.Workers.{Worked}
use Rattle.e3_gate_runs.proofs.turns.crew.work_all.Goals as goal

pub returns : goal.returns
returns g c i d h =
    let k = (c.for_each_mut.ensures i d h).1 in
    let e : Worked c.args.lock.now k.argument.now k.after_call.now = search rules in
    subst (λ y. Worked c.args.lock.now (slice_index_or c.args.workers.now i d) y) k.left
    (subst (λ x. Worked c.args.lock.now x k.after_call.now) k.argument_is e)
