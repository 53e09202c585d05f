use Rattle.std.proofs.Common.{◌≡◌, fold}
use Rattle.e3_world.specs.Making.{and_send}
use Rattle.e3_step.proofs.making.and_cast.Given as goal

abbrev pub invariant-loop-to : goal.invariant-loop-to
invariant-loop-to g l = l.made ≡ fold (λ so_far to. and_send (g.P.Past.at l.p) to l.m so_far) l.initial.made l.yielded
