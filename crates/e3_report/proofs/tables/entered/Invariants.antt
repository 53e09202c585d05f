use Rattle.std.proofs.Common.{◌≡◌, [], fold, take}
use Rattle.e3_report.specs.Tables.{ops_in, entered}
use Rattle.e3_report.proofs.tables.entered.Given as goal

abbrev pub invariant-loop-r : goal.invariant-loop-r
invariant-loop-r l = l.table ≡ fold (entered (ops_in l.votes)) [] (take l.r-index l.log)
