-- the bytes that are left
use Rattle.std.proofs.Common.{length}
use Rattle.e3_scenario.proofs.parts.+sites_above.Given as goal

abbrev pub decreases-sites_above : goal.decreases-sites_above
decreases-sites_above l = length l.text.now
