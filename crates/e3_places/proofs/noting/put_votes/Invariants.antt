use Rattle.std.proofs.Common.{◌≡◌, ℕ, List, fold, map, take}
use Rattle.e3_places.specs.Keeping.{place_at}
use Rattle.e3_places.specs.Noting.{with_vote}
use Rattle.e3_places.specs.Standing.{voted}
use Rattle.e3_places.proofs.noting.put_votes.Given as goal

abbrev pub invariant-loop-o : goal.invariant-loop-o
invariant-loop-o l = (n : List ℕ) → place_at l.names.entries n ≡ fold (with_vote n) (place_at l.initial.names.entries n) (map (voted l.t) (take l.o-index l.ops))
