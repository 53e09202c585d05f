use Rattle.std.proofs.Common.{◌≡◌}
use Rattle.std.specs.List.{list_all}
use Rattle.e3_site.specs.Orderly.{is_weighed}
use Rattle.e3_site.proofs.order.are_weighed.Given as goal

abbrev pub invariant-loop-s : goal.invariant-loop-s
invariant-loop-s l = list_all (is_weighed l.weights) l.fn.sites ≡ list_all (is_weighed l.weights) l.s-iterator
