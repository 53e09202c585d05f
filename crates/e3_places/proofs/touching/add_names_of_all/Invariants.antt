use Rattle.std.proofs.Common.{◌≡◌, ◌++◌, take}
use Rattle.std.specs.List.{flat_map}
use Rattle.e3_places.specs.Touching.{moved_names}
use Rattle.e3_places.specs.Keeping.{claims_at, txn_id}
use Rattle.e3_places.proofs.touching.add_names_of_all.Given as goal

abbrev pub invariant-loop-t : goal.invariant-loop-t
invariant-loop-t l = l.out ≡ l.initial.out ++ flat_map (λ t. moved_names l.doings.records.now l.doings.events.now l.doings.outs.now (claims_at l.doings.places.now.txns.entries (txn_id t))) (take l.t-index l.reached)
