use Rattle.std.proofs.Common.{◌≡◌, subst}
use Rattle.std.specs.Prelude.{IfOk}
use Rattle.e3_site.proofs.past.RecordsFollow.{so_far_follows}
use Rattle.e3_step.specs.Reading.{own_value}
use Rattle.e3_types.specs.declared.transactions.Answer.{Answer}
use Rattle.e3_cards.proofs.Countable.{are_countable}
use Rattle.e3_site.proofs.past.reader.ReaderPast.value.Goals as goal

pub row-requires : goal.row-requires
row-requires g c = (c.self.invariant.names_stand, so_far_follows g.K.Whose.place c.args.made.now c.requires)

pub own_value-requires : goal.own_value-requires
own_value-requires g c = are_countable g.K.Whose.place.site _ g.K.Whose.place.life c.self.invariant.cards_stand c.self.invariant.few

pub returns : goal.returns
returns g c =
    subst (λ (row : Answer). IfOk c.own_value.result (λ x. x ≡ own_value g.K.Whose.place c.args.t.now c.args.name.now row c.args.made.now)) c.in_ok-row.ensures
    (c.own_value.ensures g.K.Whose.place c.self.invariant.cards_stand c.self.invariant.input_is)
