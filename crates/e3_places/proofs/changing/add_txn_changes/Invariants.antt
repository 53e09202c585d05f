use Rattle.std.proofs.Common.{◌≡◌, ◌++◌, take, map}
use Rattle.e3_places.specs.Keeping.{txn_change}
use Rattle.e3_places.proofs.changing.add_txn_changes.Given as goal

abbrev pub invariant-loop-key : goal.invariant-loop-key
invariant-loop-key l = l.out ≡ l.initial.out ++ map (txn_change l.doings.places.now.txns.entries l.doings.new.now l.doings.records.now l.doings.events.now l.doings.outs.now) (take l.key-index l.keys)
