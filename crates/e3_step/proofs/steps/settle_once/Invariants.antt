use Rattle.std.proofs.Common.{◌≡◌, take, fold, []}
use Rattle.e3_world.specs.Steps.{handled}
use Rattle.e3_step.proofs.steps.settle_once.Given as goal

abbrev pub invariant-loop-m : goal.invariant-loop-m
invariant-loop-m g l = l.made ≡ fold (handled (g.P.Past.at l.p)) (record l.fn.made { own = [] }) (take l.m-index l.m-items)
