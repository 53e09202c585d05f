-- the rows so far fit
use Rattle.std.proofs.Common.{take}
use Rattle.std.specs.List.{AllByRecursion as Each}
use Rattle.e3_codec.specs.Fields.{RowFits}
use Rattle.e3_node.proofs.fitting.tell_rows.Given as goal

abbrev pub invariant-loop-row : goal.invariant-loop-row
invariant-loop-row l = Each RowFits (take l.row-index l.rows)
