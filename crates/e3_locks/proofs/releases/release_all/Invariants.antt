-- the names so far are released, and their pairs are gone
use Rattle.std.proofs.Common.{◌≡◌, ◌≤◌, ◌-◌, ℕ, List, take, drop, vec_len, vec_capacity}
use Rattle.e3_types.specs.Sorted.{AreUnder, IsAscending}
use Rattle.e3_locks.specs.Places.{released}
use Rattle.e3_locks.specs.Standing.{IsTable, place_in}
use Rattle.e3_locks.specs.Pairs.{key_of, pair_key, AreFrom, IsIndex}
use Rattle.e3_locks.proofs.releases.release_all.Given as goal

abbrev pub invariant-pairs : goal.invariant-pairs
invariant-pairs l = record {
  few : l.at ≤ vec_len l.pairs;
  before : AreUnder pair_key (key_of l.t) (take l.at l.pairs.items);
  from : AreFrom (key_of l.t) (drop l.at l.pairs.items);
  index : IsIndex l.places.items l.pairs.items;
  same : (n : List ℕ) → released l.t (place_in n l.places.items) ≡ released l.t (place_in n l.initial.places.items);
  table : (most : ℕ) → IsTable l.initial.places.items most → IsTable l.places.items most;
  ascending : IsAscending (λ s. s.name) l.places.items;
  len : vec_len l.places ≡ vec_len l.initial.places;
  room : vec_capacity l.places ≡ vec_capacity l.initial.places;
  pairs_len : vec_len l.pairs ≤ vec_len l.initial.pairs;
  pairs_room : vec_capacity l.pairs ≡ vec_capacity l.initial.pairs;
}

abbrev pub decreases-pairs : goal.decreases-pairs
decreases-pairs l = vec_len l.pairs - l.at
