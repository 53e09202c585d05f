use Rattle.std.proofs.Common.{◌≡◌, ◌||◌, not}
use Rattle.std.specs.Prelude.{nat_lt}
use Rattle.std.specs.List.{list_all}
use Rattle.e3_world.specs.Packets.{sites_to}
use Rattle.e3_world.specs.Legal.{has_rising}
use Rattle.e3_judge.proofs.steps.lower_rose.Given as goal

abbrev pub invariant-loop-s : goal.invariant-loop-s
invariant-loop-s l = l.all ≡ list_all (λ s. not (nat_lt s l.site) || has_rising l.history s) (sites_to l.s)
