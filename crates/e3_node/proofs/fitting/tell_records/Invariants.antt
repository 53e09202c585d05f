-- the records so far have their numbers, names and values
use Rattle.std.proofs.Common.{take}
use Rattle.std.specs.List.{AllByRecursion as Each}
use Rattle.e3_node.specs.Telling.{IsTold}
use Rattle.e3_node.proofs.fitting.tell_records.Given as goal

abbrev pub invariant-loop-r : goal.invariant-loop-r
invariant-loop-r l = Each IsTold (take l.r-index l.records)
