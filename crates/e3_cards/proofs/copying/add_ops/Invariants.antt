use Rattle.std.proofs.Common.{◌≡◌, ◌++◌, take}
use Rattle.e3_cards.proofs.copying.add_ops.Given as goal

abbrev pub invariant-loop-x : goal.invariant-loop-x
invariant-loop-x l = l.out ≡ l.initial.out ++ take l.x-index l.ops
