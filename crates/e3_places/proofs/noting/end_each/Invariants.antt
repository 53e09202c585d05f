use Rattle.std.proofs.Common.{◌≡◌, if◌then◌else◌, ℕ, List, take}
use Rattle.std.specs.List.{list_any}
use Rattle.e3_places.specs.Keeping.{place_at}
use Rattle.e3_places.specs.Noting.{ended}
use Rattle.e3_places.specs.Standing.{is_on}
use Rattle.e3_places.proofs.noting.end_each.Given as goal

abbrev pub invariant-loop-a : goal.invariant-loop-a
invariant-loop-a l =
    (n : List ℕ) → place_at l.names.entries n ≡ (if list_any (is_on n) (take l.a-index l.votes) then ended l.r (place_at l.initial.names.entries n) else place_at l.initial.names.entries n)
