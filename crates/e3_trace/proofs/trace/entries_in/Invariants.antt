use Rattle.std.proofs.Common.{◌≤◌}
use Rattle.e3_trace.proofs.trace.entries_in.Given as goal

abbrev pub invariant-loop-byte : goal.invariant-loop-byte
invariant-loop-byte l = l.count ≤ 2000001
