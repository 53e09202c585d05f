use Rattle.std.proofs.Common.{◌≡◌, ◌+◌, take}
use Rattle.e3_world.specs.Legal.{numbered}
use Rattle.e3_judge.proofs.sites.numbered.Given as goal

abbrev pub invariant-loop-out : goal.invariant-loop-out
invariant-loop-out l = record {
  so_far : l.packets ≡ numbered l.first (take l.out-index l.outs);
  next : l.number ≡ l.first + l.out-index;
}
