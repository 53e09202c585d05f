use Rattle.std.proofs.Common.{◌≡◌, ◌++◌, take}
use Rattle.std.specs.List.{flat_map}
use Rattle.e3_places.specs.Standing.{again}
use Rattle.e3_places.proofs.behind.add_standing.Given as goal

abbrev pub invariant-loop-s : goal.invariant-loop-s
invariant-loop-s l = l.out ≡ l.initial.out ++ flat_map (again l.doings.records.now l.doings.events.now l.doings.outs.now) (take l.s-index l.was)
