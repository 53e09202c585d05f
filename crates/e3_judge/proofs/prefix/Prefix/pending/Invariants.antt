use Rattle.std.proofs.Common.{◌≡◌, take, []}
use Rattle.e3_world.specs.Packets.{left_after}
use Rattle.e3_judge.proofs.prefix.Prefix.pending.Given as goal

abbrev pub invariant-loop-i : goal.invariant-loop-i
invariant-loop-i l = l.left ≡ left_after l.self.scenario.now l.self.entries.now [] (take l.i l.self.entries.now)
