use Rattle.std.proofs.Common.{◌≡◌, take}
use Rattle.e3_order.specs.Orders.{decided}
use Rattle.e3_order.proofs.decisions.decided.Given as goal

abbrev pub invariant-loop-p : goal.invariant-loop-p
invariant-loop-p l = l.keys ≡ decided l.dir (take l.p-index l.placed)
