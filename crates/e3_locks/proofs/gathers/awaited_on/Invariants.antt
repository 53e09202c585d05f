-- those waited for on the names so far
use Rattle.std.proofs.Common.{◌≡◌, [], fold, take}
use Rattle.std.specs.List.{flat_map}
use Rattle.e3_world.specs.Items.{add_txn}
use Rattle.e3_locks.specs.Standing.{place_in}
use Rattle.e3_locks.specs.Waiting.{awaited_at}
use Rattle.e3_locks.proofs.gathers.awaited_on.Given as goal

abbrev pub invariant-loop-pair : goal.invariant-loop-pair
invariant-loop-pair l = l.out.items ≡ fold add_txn [] (flat_map (λ p. awaited_at l.t (place_in p.name l.places)) (take l.pair-index l.pairs))
