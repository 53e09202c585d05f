use Rattle.e3_site.proofs.past.Undecided.{added_are}
use Rattle.e3_site.proofs.past.opening.add_opens.Goals as goal

pub returns : goal.returns
returns c = λ a cards.
    added_are a.site a.life c.args.step.now c.args.more.now (record { logged = c.add_all_known.new.out; arrived = c.add_arrived.new.out; begun = c.add_all_known-2.new.out })
    c.as_slice.result.now c.as_slice-2.result.now (c.requires.none 0 0) c.as_slice.ensures c.as_slice-2.ensures
    (c.in_ok-add_all_known.ensures a cards) (c.in_ok-add_arrived.ensures a cards) (c.in_ok-add_all_known-2.ensures a cards)
