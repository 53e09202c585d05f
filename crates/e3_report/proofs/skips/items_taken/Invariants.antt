use Rattle.std.proofs.Common.{◌≡◌, take}
use Rattle.e3_report.specs.Skips.{items_taken}
use Rattle.e3_report.proofs.skips.items_taken.Given as goal

abbrev pub invariant-loop-e : goal.invariant-loop-e
invariant-loop-e l = l.n ≡ items_taken l.site (take l.e-index l.during)
