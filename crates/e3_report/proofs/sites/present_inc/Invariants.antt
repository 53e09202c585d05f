use Rattle.std.proofs.Common.{◌≡◌, take}
use Rattle.e3_world.specs.Moves.{own_entries}
use Rattle.e3_report.specs.Report.{present_inc}
use Rattle.e3_report.proofs.sites.present_inc.Given as goal

abbrev pub invariant-loop-e : goal.invariant-loop-e
invariant-loop-e l = l.inc ≡ present_inc (own_entries l.site (take l.e-index l.entries))
