use Rattle.std.proofs.Common.{ap, fold, List}
use Rattle.e3_world.specs.declared.lives.Performed.{Performed}
use Rattle.e3_world.specs.Making.{own_write}
use Rattle.e3_cards.proofs.Reading.{ok_is, done_now}
use Rattle.e3_cards.proofs.cards.Cards.own_value.Goals as goal

pub own_with-requires : goal.own_with-requires
own_with-requires c = (c.card_of-card.ensures.countable c.requires).issued

pub returns : goal.returns
returns c = λ a stands input.
    let card = c.card_of-card.ensures.card a stands in
    let done = done_now c.args.self.now.site c.args.t.now a c.args.input.now c.args.made.now _ stands.site_is input card in
    ok_is c.own_with.result _ _ (ap (λ (l : List Performed). fold (own_write c.args.name.now) c.args.row l) done) c.own_with.ensures
