use Rattle.std.proofs.Common.{◌≡◌, ◌++◌, take, filter}
use Rattle.e3_places.specs.Granting.{is_restless}
use Rattle.e3_places.proofs.granting.add_restless.Given as goal

abbrev pub invariant-loop-name : goal.invariant-loop-name
invariant-loop-name l = l.out ≡ l.initial.out ++ filter (is_restless l.doings.places.now.names.entries l.doings.new.now l.doings.records.now l.doings.events.now l.doings.outs.now) (take l.name-index l.names)
