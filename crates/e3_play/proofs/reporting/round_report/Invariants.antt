use Rattle.std.proofs.Common.{◌≡◌, take}
use Rattle.e3_play.specs.Reports.{verdict_of}
use Rattle.e3_play.proofs.reporting.round_report.Given as goal

abbrev pub invariant-loop-entry : goal.invariant-loop-entry
invariant-loop-entry l = l.verdict ≡ verdict_of l.round (take l.entry-index l.entered)
