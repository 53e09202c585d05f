-- the records so far stand behind those that were there
use Rattle.std.proofs.Common.{◌≡◌, ◌++◌}
use Rattle.e3_node.proofs.reading.move_records.Given as goal

abbrev pub invariant-loop-r : goal.invariant-loop-r
invariant-loop-r l = l.out ≡ l.initial.out ++ l.yielded
