use Rattle.std.proofs.Common.{◌≡◌, ◌++◌, take, drop}
use Rattle.e3_report.specs.Steps.{until_line}
use Rattle.e3_report.proofs.steps.until_line.Given as goal

abbrev pub invariant-loop-at : goal.invariant-loop-at
invariant-loop-at l = until_line l.entries ≡ take l.at l.entries ++ until_line (drop l.at l.entries)
