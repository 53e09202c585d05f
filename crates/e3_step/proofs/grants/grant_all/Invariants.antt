use Rattle.std.proofs.Common.{◌≡◌, take, fold}
use Rattle.e3_world.specs.Making.{and_grant}
use Rattle.e3_step.proofs.grants.grant_all.Given as goal

abbrev pub invariant-loop-q : goal.invariant-loop-q
invariant-loop-q g l = l.made ≡ fold (and_grant (g.P.Past.at l.p)) l.initial.made (take l.q-index l.asked)
