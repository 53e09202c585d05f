use Rattle.std.proofs.Common.{◌≡◌}
use Rattle.std.specs.List.{list_all}
use Rattle.e3_world.specs.Packets.{sites_to}
use Rattle.e3_world.specs.Legal.{has_rising}
use Rattle.e3_judge.proofs.steps.all_rose.Given as goal

abbrev pub invariant-loop-s : goal.invariant-loop-s
invariant-loop-s l = l.all ≡ list_all (has_rising l.history) (sites_to l.s)
