use Rattle.e3_net.proofs.Rows.{next_is}
use Rattle.e3_net.proofs.slots.set_next.Goals as goal

pub returns-clause-items : goal.returns-clause-items
returns-clause-items c = next_is c.args.slots.now.items c.args.at c.args.next c.index_mut.result.now c.requires c.index_mut.ensures.value
