use Rattle.std.proofs.Common.{◌≡◌, fold, map, ℕ, List}
use Rattle.e3_places.specs.Keeping.{put_name, place_at, at_name, HasEach}
use Rattle.e3_places.proofs.changing.put_names.Given as goal

abbrev pub invariant-loop-change : goal.invariant-loop-change
invariant-loop-change l = record {
  right : (name : List ℕ) → place_at l.names.entries name ≡ fold (put_name name) (place_at l.initial.names.entries name) l.yielded;
  room : HasEach at_name l.names.entries (map (λ c. c.name) l.change-iterator.rest.items);
}
