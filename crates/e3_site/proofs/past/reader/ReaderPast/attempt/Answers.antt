use Rattle.std.proofs.Common.{ap}
use Rattle.e3_cards.specs.declared.seen.Seen.{Seen}
use Rattle.e3_site.proofs.past.reader.ReaderPast.attempt.Goals as goal

pub returns : goal.returns
returns g c =
    ap (λ (s : Seen). s.attempt) (c.seen.ensures g.K.Whose.place c.self.invariant.cards_stand)
