use Rattle.std.proofs.Common.{◌≡◌, take}
use Rattle.e3_report.specs.Walk.{walk_of}
use Rattle.e3_report.proofs.logs.walk_of.Given as goal

abbrev pub invariant-loop-e : goal.invariant-loop-e
invariant-loop-e l = l.walk ≡ walk_of l.scenario (take l.e-index l.history)
