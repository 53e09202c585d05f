use Rattle.std.proofs.Common.{sym}
use Rattle.e3_cards.proofs.Countable.{are_countable}
use Rattle.e3_site.proofs.past.RecordsFollow.{so_far_follows}
use Rattle.e3_site.proofs.past.reader.ReaderPast.grants_after.Goals as goal

pub grants_after-requires : goal.grants_after-requires
grants_after-requires g c = (
  c.self.invariant.cards_stand,
  (
    c.self.invariant.names_stand,
    (
      are_countable g.K.Whose.place.site _ g.K.Whose.place.life c.self.invariant.cards_stand c.self.invariant.few,
      (sym c.self.invariant.input_is, so_far_follows g.K.Whose.place c.args.made.now c.requires),
    ),
  ),
)
