use Rattle.e3_net.proofs.Rows.{copies_is}
use Rattle.e3_net.proofs.slots.set_copies.Goals as goal

pub returns-clause-items : goal.returns-clause-items
returns-clause-items c = copies_is c.args.slots.now.items c.args.at c.args.copies c.index_mut.result.now c.requires c.index_mut.ensures.value
