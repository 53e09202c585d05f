use Rattle.std.proofs.Common.{◌≡◌, take}
use Rattle.e3_world.specs.Fate.{same_part}
use Rattle.e3_world.specs.Packets.{parts_of}
use Rattle.e3_judge.proofs.packets.is_joined.Given as goal

abbrev pub invariant-loop-e : goal.invariant-loop-e
invariant-loop-e l = l.joined ≡ same_part (parts_of l.scenario (take l.e-index l.before)) l.s l.u
