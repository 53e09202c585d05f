-- the packets so far, and the place of the next one
use Rattle.std.proofs.Common.{length}
use Rattle.e3_net.proofs.Walking.{Walked, queue_from}
use Rattle.e3_net.proofs.queue.Queue.first_few.Given as goal

abbrev pub invariant-walk : goal.invariant-walk
invariant-walk l = Walked l.most l.site l.self-inside.gone l.self-inside.slots.items l.few l.place

abbrev pub decreases-walk : goal.decreases-walk
decreases-walk l = length (queue_from l.site l.place l.self-inside.gone l.self-inside.slots.items)
