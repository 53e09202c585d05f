use Rattle.std.proofs.Common.{◌≡◌, take, length}
use Rattle.e3_world.specs.Packets.{sent}
use Rattle.e3_judge.proofs.packets.sent_count.Given as goal

abbrev pub invariant-loop-e : goal.invariant-loop-e
invariant-loop-e l = l.count ≡ length (sent (take l.e-index l.history))
