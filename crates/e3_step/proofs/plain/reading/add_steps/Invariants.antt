use Rattle.std.proofs.Common.{◌≡◌, ◌++◌, take}
use Rattle.e3_step.proofs.plain.reading.add_steps.Given as goal

abbrev pub invariant-loop-m : goal.invariant-loop-m
invariant-loop-m l = l.out ≡ l.initial.out ++ take l.m-index l.steps
