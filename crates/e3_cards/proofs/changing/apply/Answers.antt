use Rattle.std.proofs.Common.{refl}
use Rattle.e3_cards.proofs.Putting.{stands_on}
use Rattle.e3_cards.proofs.changing.apply.Goals as goal

pub returns : goal.returns
returns c =
    stands_on c.args.cards.now
    (record { site = c.args.cards.now.site; inc = c.args.cards.now.inc; begins = c.args.changes.begins; calls = c.args.changes.calls; map = c.put_all.new.map })
    c.args.step.now c.args.changes c.requires.are refl refl refl refl c.put_all.ensures
