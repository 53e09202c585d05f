use Rattle.std.proofs.Common.{◌≡◌, take}
use Rattle.e3_world.specs.Packets.{taken}
use Rattle.e3_judge.proofs.packets.taken.Given as goal

abbrev pub invariant-loop-e : goal.invariant-loop-e
invariant-loop-e l = l.count ≡ taken l.number (take l.e-index l.history)
