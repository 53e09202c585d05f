use Rattle.std.proofs.Common.{◌≡◌, take}
use Rattle.e3_world.specs.Legal.{has_rising}
use Rattle.e3_judge.proofs.steps.has_rising.Given as goal

abbrev pub invariant-loop-e : goal.invariant-loop-e
invariant-loop-e l = l.has ≡ has_rising (take l.e-index l.entries) l.site
