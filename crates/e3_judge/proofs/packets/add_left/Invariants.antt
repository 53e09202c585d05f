use Rattle.std.proofs.Common.{◌≡◌, ◌++◌, take, filter}
use Rattle.std.specs.Prelude.{nat_lt}
use Rattle.e3_world.specs.Fate.{copies_of}
use Rattle.e3_world.specs.Packets.{fate_of, taken}
use Rattle.e3_judge.proofs.packets.add_left.Given as goal

abbrev pub invariant-loop-p : goal.invariant-loop-p
invariant-loop-p l = l.left
    ≡ l.initial.left ++ filter (λ p. nat_lt (taken p.number l.history) (copies_of (fate_of l.scenario l.before p))) (take l.p-index l.p-items)
