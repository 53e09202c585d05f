use Rattle.std.proofs.Common.{◌≡◌, take}
use Rattle.e3_report.proofs.tables.same_rows.Given as goal

abbrev pub invariant-loop-at : goal.invariant-loop-at
invariant-loop-at l = take l.at l.some ≡ take l.at l.others
