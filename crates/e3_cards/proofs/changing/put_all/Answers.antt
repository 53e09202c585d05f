use Rattle.std.proofs.Common.{ap, ◌∙◌, sym, ◌∷◌, []}
use Rattle.std.proofs.lemmas.List.Sums.{fold-append}
use Rattle.e3_cards.specs.declared.card.Card.{Card}
use Rattle.e3_cards.specs.Tables.{put, card_at}
use Rattle.e3_cards.proofs.Putting.{room_front, room_stays}
use Rattle.e3_cards.proofs.changing.put_all.Goals as goal

pub put_one-requires : goal.put_one-requires
put_one-requires c = (room_front c.loop-change.map.entries c.loop-change.change-iterator.rest.items c.next.new.self.rest.items c.in-Some.change c.in-Some.ensures.steps.0 c.loop-change.invariant.room).0

pub loop-change-preserved : goal.loop-change-preserved
loop-change-preserved c = record {
  right = λ t k.
      c.put_one.ensures.cards t k ∙ ap (λ (was : Card). put t was c.in-Some.change) (c.loop-change.invariant.right t k)
      ∙ sym (fold-append (put t) (card_at c.args.map.now.entries t) c.loop-change.yielded (c.in-Some.change ∷ []));
  room =
      room_stays c.loop-change.map.entries c.put_one.new.map.entries c.put_one.ensures.keys c.next.new.self.rest.items
      (room_front c.loop-change.map.entries c.loop-change.change-iterator.rest.items c.next.new.self.rest.items c.in-Some.change c.in-Some.ensures.steps.0 c.loop-change.invariant.room).1;
}
