use Rattle.std.proofs.Common.{◌≡◌, take}
use Rattle.e3_report.specs.Walk.{log_in}
use Rattle.e3_report.proofs.logs.log_in.Given as goal

abbrev pub invariant-loop-p : goal.invariant-loop-p
invariant-loop-p l = l.out ≡ log_in l.site (take l.p-index l.placed)
