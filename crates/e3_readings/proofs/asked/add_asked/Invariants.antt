use Rattle.std.proofs.Common.{◌≡◌, ◌++◌, take}
use Rattle.e3_readings.proofs.asked.add_asked.Given as goal

abbrev pub invariant-loop-a : goal.invariant-loop-a
invariant-loop-a l = l.out ≡ l.initial.out ++ take l.a-index l.asked
