use Rattle.std.proofs.Common.{◌≡◌, ◌++◌}
use Rattle.e3_scenario.proofs.so_far.append.Given as goal

abbrev pub invariant-loop-begun : goal.invariant-loop-begun
invariant-loop-begun l = l.earlier ≡ l.initial.earlier ++ l.yielded
