use Rattle.std.proofs.Common.{ap, arith}
use Rattle.e3_net.specs.Chains.{QueueView}
use Rattle.e3_net.proofs.Queueing.{placed, take_found, take_none}
use Rattle.e3_net.proofs.queue.Queue.first_to.Goals as goal

pub returns-then-place-eq0 : goal.returns-then-place-eq0
returns-then-place-eq0 c =
    (take_none c.args.site c.self.inside.gone c.place_at-place.result c.self.inside.slots.items c.self.inside.firsts.items c.self.inside.lasts.items c.self.inside.count
    c.args.self.now.items c.self.invariant c.place_at-place.ensures c.if-place-eq0.true (ap (λ (v : QueueView). v.items) c.self.view_is)).0

pub overflow_sub-place : goal.overflow_sub-place
overflow_sub-place c =
    let at = placed c.args.site c.self.inside.gone c.place_at-place.result c.self.inside.slots.items c.self.inside.firsts.items c.self.inside.lasts.items
    c.self.inside.count c.self.invariant c.place_at-place.ensures (omega arith) in
    let above = at.above in omega (arith, above)

pub overflow_sub-place-2 : goal.overflow_sub-place-2
overflow_sub-place-2 c =
    let at = placed c.args.site c.self.inside.gone c.place_at-place.result c.self.inside.slots.items c.self.inside.firsts.items c.self.inside.lasts.items
    c.self.inside.count c.self.invariant c.place_at-place.ensures (omega arith) in
    let above = at.above in omega (arith, above)

pub index-slot-requires : goal.index-slot-requires
index-slot-requires c =
    let at = placed c.args.site c.self.inside.gone c.place_at-place.result c.self.inside.slots.items c.self.inside.firsts.items c.self.inside.lasts.items
    c.self.inside.count c.self.invariant c.place_at-place.ensures (omega arith) in
    let within = at.within in omega (arith, within, c.self.inside.slots.ok)

pub returns : goal.returns
returns c =
    let at = placed c.args.site c.self.inside.gone c.place_at-place.result c.self.inside.slots.items c.self.inside.firsts.items c.self.inside.lasts.items
    c.self.inside.count c.self.invariant c.place_at-place.ensures (omega arith) in
    take_found c.args.site c.self.inside.gone c.place_at-place.result c.self.inside.slots.items c.index-slot.result.now c.args.self.now.items at
    c.index-slot.ensures (ap (λ (v : QueueView). v.items) c.self.view_is)
