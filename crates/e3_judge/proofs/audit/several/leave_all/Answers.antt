use Rattle.std.proofs.Common.{List, subst, sym}
use Rattle.e3_judge.specs.audit.Seats.{TakesAll}
use Rattle.e3_types.specs.declared.entries.Input.{Input}
use Rattle.e3_judge.proofs.audit.Places.{take_next}
use Rattle.e3_judge.proofs.audit.FallsAndRises.{takes_more}
use Rattle.e3_judge.proofs.audit.several.leave_all.Goals as goal

pub loop-input-preserved : goal.loop-input-preserved
loop-input-preserved c =
    subst (λ (l : List Input). TakesAll c.args.net.now.traffic l c.leave.new.net.traffic)
    (sym (take_next c.args.inputs.now c.loop-input.input-index c.input-item.result c.loop-input-test.true c.input-item.is))
    (takes_more c.args.net.now.traffic c.loop-input.net.traffic c.leave.new.net.traffic _ c.input-item.result c.loop-input.invariant
    (c.is_next.ensures c.if-not-is_next.false) c.leave.ensures)
