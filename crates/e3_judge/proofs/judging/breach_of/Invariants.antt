use Rattle.std.proofs.Common.{◌≡◌, take, drop}
use Rattle.e3_judge.specs.Checks.{breach_after}
use Rattle.e3_judge.proofs.judging.breach_of.Given as goal

abbrev pub invariant-loop-i : goal.invariant-loop-i
invariant-loop-i l = breach_after l.scenario (take l.from l.history) (drop l.from l.history) ≡ breach_after l.scenario (take l.i l.history) (drop l.i l.history)
