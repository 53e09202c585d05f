use Rattle.std.proofs.Common.{◌≡◌, [], fold, take}
use Rattle.e3_world.specs.Orderly.{weights_by}
use Rattle.e3_site.proofs.headings.weights_in.Given as goal

abbrev pub invariant-loop-r : goal.invariant-loop-r
invariant-loop-r l = l.found ≡ fold weights_by [] (take l.r-index l.before)
