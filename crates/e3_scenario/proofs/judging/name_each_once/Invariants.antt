use Rattle.std.proofs.Common.{◌≡◌, ◌==◌, count_by}
use Rattle.std.specs.List.{list_all}
use Rattle.e3_types.specs.Sets.{has_site}
use Rattle.e3_scenario.proofs.judging.name_each_once.Given as goal

abbrev pub invariant-loop-site : goal.invariant-loop-site
invariant-loop-site l = l.once ≡ list_all (λ s. count_by (λ part. has_site part s) l.parts == 1) l.yielded
