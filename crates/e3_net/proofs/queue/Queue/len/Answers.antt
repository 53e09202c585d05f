use Rattle.std.proofs.Common.{length, ◌∙◌, ap, sym}
use Rattle.e3_net.specs.Chains.{QueueView}
use Rattle.e3_net.proofs.Rows.{length_shown}
use Rattle.e3_net.proofs.queue.Queue.len.Goals as goal

pub returns : goal.returns
returns c = c.self.invariant.chained.number ∙ sym (length_shown c.self.inside.slots.items) ∙ ap (λ (v : QueueView). length v.items) c.self.view_is
