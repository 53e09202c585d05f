use Rattle.std.proofs.Common.{ap, ◌∙◌, sym, ◌∷◌, [], map}
use Rattle.std.proofs.lemmas.List.Sums.{fold-append}
use Rattle.e3_places.specs.declared.places.Place.{Place}
use Rattle.e3_places.specs.Keeping.{put_name, place_at, at_name}
use Rattle.e3_places.proofs.Putting.{each_front, each_stays}
use Rattle.e3_places.proofs.changing.put_names.Goals as goal

pub put_name-requires : goal.put_name-requires
put_name-requires c =
    (each_front at_name (λ c. c.name) c.loop-change.names.entries c.loop-change.change-iterator.rest.items c.next.new.self.rest.items c.in-Some.change c.in-Some.ensures.steps.0
    c.loop-change.invariant.room).0

pub loop-change-preserved : goal.loop-change-preserved
loop-change-preserved c = record {
  right = λ name.
      c.put_name.ensures.values name ∙ ap (λ (was : Place). put_name name was c.in-Some.change) (c.loop-change.invariant.right name)
      ∙ sym (fold-append (put_name name) (place_at c.args.names.now.entries name) c.loop-change.yielded (c.in-Some.change ∷ []));
  room =
      each_stays at_name c.loop-change.names.entries c.put_name.new.names.entries c.put_name.ensures.keys (map (λ c. c.name) c.next.new.self.rest.items)
      (each_front at_name (λ c. c.name) c.loop-change.names.entries c.loop-change.change-iterator.rest.items c.next.new.self.rest.items c.in-Some.change c.in-Some.ensures.steps.0
      c.loop-change.invariant.room).1;
}
