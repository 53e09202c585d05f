use Rattle.std.proofs.Common.{◌≡◌, ◌-◌, drop}
use Rattle.e3_world.specs.Orderly.{names_ascend}
use Rattle.e3_site.proofs.order.names_ascend.Given as goal

abbrev pub invariant-loop-i : goal.invariant-loop-i
invariant-loop-i l = names_ascend l.rows ≡ names_ascend (drop (l.i - 1) l.rows)
