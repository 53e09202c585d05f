use Rattle.std.proofs.Common.{◌≡◌, fold}
use Rattle.e3_world.specs.Steps.{and_ask}
use Rattle.e3_step.proofs.steps.ask_all.Given as goal

abbrev pub invariant-loop-to : goal.invariant-loop-to
invariant-loop-to g l = l.made ≡ fold (and_ask (g.P.Past.at l.p) l.t) l.initial.made l.yielded
