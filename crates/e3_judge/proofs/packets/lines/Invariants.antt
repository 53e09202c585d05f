use Rattle.std.proofs.Common.{◌≡◌, ◌≤◌, take}
use Rattle.e3_world.specs.Packets.{lines}
use Rattle.e3_judge.proofs.packets.lines.Given as goal

abbrev pub invariant-loop-e : goal.invariant-loop-e
invariant-loop-e l = record {
  so_far : l.count ≡ lines (take l.e-index l.history);
  within : l.count ≤ l.e-index;
}
