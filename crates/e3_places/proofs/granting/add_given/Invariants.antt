use Rattle.std.proofs.Common.{◌≡◌, ◌++◌, take}
use Rattle.std.specs.List.{flat_map}
use Rattle.e3_places.specs.Granting.{given_behind}
use Rattle.e3_places.proofs.granting.add_given.Given as goal

abbrev pub invariant-loop-name : goal.invariant-loop-name
invariant-loop-name l = l.out ≡ l.initial.out ++ flat_map (given_behind l.doings.places.now.names.entries l.doings.new.now l.doings.records.now l.doings.events.now l.doings.outs.now) (take l.name-index l.names)
