-- what the names so far grant
use Rattle.std.proofs.Common.{◌≡◌, map, take}
use Rattle.std.specs.List.{flat_map}
use Rattle.e3_types.specs.Locks.{front}
use Rattle.e3_locks.specs.LockLists.{named}
use Rattle.e3_locks.specs.Places.{without}
use Rattle.e3_locks.specs.Standing.{place_in}
use Rattle.e3_locks.proofs.gathers.granted_on.Given as goal

abbrev pub invariant-loop-pair : goal.invariant-loop-pair
invariant-loop-pair l = l.out
    ≡ flat_map (λ p. map (named p.name) (front (without l.t (place_in p.name l.places)).held (without l.t (place_in p.name l.places)).queue)) (take l.pair-index l.pairs)
