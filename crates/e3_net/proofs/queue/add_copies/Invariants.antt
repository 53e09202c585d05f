-- the copies so far stand behind those before
use Rattle.std.proofs.Common.{◌≡◌, ◌++◌, take}
use Rattle.std.specs.Prelude.{replicate}
use Rattle.e3_net.proofs.queue.add_copies.Given as goal

abbrev pub invariant-loop : goal.invariant-loop
invariant-loop l = l.out ≡ take l.most (l.fn.out ++ replicate l.counter l.packet)
