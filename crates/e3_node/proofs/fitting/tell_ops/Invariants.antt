-- the operations so far have their numbers, names and values
use Rattle.std.proofs.Common.{take}
use Rattle.std.specs.List.{AllByRecursion as Each}
use Rattle.e3_node.specs.Telling.{NumOpTold}
use Rattle.e3_node.proofs.fitting.tell_ops.Given as goal

abbrev pub invariant-loop-o : goal.invariant-loop-o
invariant-loop-o l = Each NumOpTold (take l.o-index l.ops)
