use Rattle.std.proofs.Common.{◌≡◌, take, map}
use Rattle.e3_world.specs.Moves.{unnumbered}
use Rattle.e3_judge.proofs.sites.unnumbered_outs.Given as goal

abbrev pub invariant-loop-p : goal.invariant-loop-p
invariant-loop-p l = l.out ≡ map unnumbered (take l.p-index l.outs)
