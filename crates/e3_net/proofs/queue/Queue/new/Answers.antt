use Rattle.std.proofs.Common.{sym, subst, List}
use Rattle.e3_net.specs.declared.slots.Slot.{Slot}
use Rattle.e3_net.specs.Chains.{QueueStands, links}
use Rattle.e3_net.proofs.Standing.{new_stands}
use Rattle.e3_net.proofs.queue.Queue.new.Goals as goal

pub invariant_of-result : goal.invariant_of-result
invariant_of-result c =
    subst (λ (ss : List Slot). QueueStands 0 (links ss) c.in_ok-firsts.firsts.items c.in_ok-lasts.lasts.items 0) (sym c.new.ensures.items)
    (new_stands c.in_ok-firsts.firsts.items c.in_ok-lasts.lasts.items c.in_ok-firsts.ensures c.in_ok-lasts.ensures)
