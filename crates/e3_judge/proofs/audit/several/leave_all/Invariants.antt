use Rattle.std.proofs.Common.{take}
use Rattle.e3_judge.specs.audit.Seats.{TakesAll}
use Rattle.e3_judge.proofs.audit.several.leave_all.Given as goal

abbrev pub invariant-loop-input : goal.invariant-loop-input
invariant-loop-input l = TakesAll l.initial.net.traffic (take l.input-index l.inputs) l.net.traffic
