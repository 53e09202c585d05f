use Rattle.std.proofs.Common.{◌≡◌, ◌++◌, take, map}
use Rattle.e3_places.specs.Keeping.{name_change}
use Rattle.e3_places.proofs.changing.add_name_changes.Given as goal

abbrev pub invariant-loop-name : goal.invariant-loop-name
invariant-loop-name l = l.out ≡ l.initial.out ++ map (name_change l.doings.places.now.names.entries l.doings.new.now l.doings.records.now l.doings.events.now l.doings.outs.now) (take l.name-index l.names)
