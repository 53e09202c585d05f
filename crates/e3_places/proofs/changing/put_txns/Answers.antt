use Rattle.std.proofs.Common.{ap, ◌∙◌, sym, ◌∷◌, [], map}
use Rattle.std.proofs.lemmas.List.Sums.{fold-append}
use Rattle.e3_places.specs.declared.places.Claims.{Claims}
use Rattle.e3_places.specs.Keeping.{put_txn, claims_at, at_key}
use Rattle.e3_places.proofs.Putting.{each_front, each_stays}
use Rattle.e3_places.proofs.changing.put_txns.Goals as goal

pub put_txn-requires : goal.put_txn-requires
put_txn-requires c =
    (each_front at_key (λ c. c.key) c.loop-change.txns.entries c.loop-change.change-iterator.rest.items c.next.new.self.rest.items c.in-Some.change c.in-Some.ensures.steps.0
    c.loop-change.invariant.room).0

pub loop-change-preserved : goal.loop-change-preserved
loop-change-preserved c = record {
  right = λ k.
      c.put_txn.ensures.values k ∙ ap (λ (was : Claims). put_txn k was c.in-Some.change) (c.loop-change.invariant.right k)
      ∙ sym (fold-append (put_txn k) (claims_at c.args.txns.now.entries k) c.loop-change.yielded (c.in-Some.change ∷ []));
  room =
      each_stays at_key c.loop-change.txns.entries c.put_txn.new.txns.entries c.put_txn.ensures.keys (map (λ c. c.key) c.next.new.self.rest.items)
      (each_front at_key (λ c. c.key) c.loop-change.txns.entries c.loop-change.change-iterator.rest.items c.next.new.self.rest.items c.in-Some.change c.in-Some.ensures.steps.0
      c.loop-change.invariant.room).1;
}
