use Rattle.std.proofs.Common.{◌≡◌, drop}
use Rattle.e3_world.specs.Orderly.{ops_ascend}
use Rattle.e3_site.proofs.order.are_ascending.Given as goal

abbrev pub invariant-loop-o : goal.invariant-loop-o
invariant-loop-o l = ops_ascend 0 l.ops ≡ ops_ascend l.last (drop l.o-index l.ops)
