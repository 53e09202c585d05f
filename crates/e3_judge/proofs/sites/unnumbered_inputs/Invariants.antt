use Rattle.std.proofs.Common.{◌≡◌, take, map}
use Rattle.e3_world.specs.Moves.{unnumbered_input}
use Rattle.e3_judge.proofs.sites.unnumbered_inputs.Given as goal

abbrev pub invariant-loop-i : goal.invariant-loop-i
invariant-loop-i l = l.out ≡ map unnumbered_input (take l.i-index l.inputs)
