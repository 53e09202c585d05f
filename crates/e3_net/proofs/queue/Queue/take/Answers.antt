use Rattle.std.proofs.Common.{◌-◌, List, drop, ◌∙◌, ap, sym, subst, refl, arith}
use Rattle.e3_net.specs.declared.slots.Slot.{Slot}
use Rattle.e3_net.specs.Chains.{QueueStands, QueueView, gone_before, links, shown}
use Rattle.e3_net.proofs.Queueing.{placed, take_found, take_leaves, take_less, take_none, take_shows, take_stays}
use Rattle.e3_net.proofs.queue.Queue.take.Goals as goal

pub returns-then-place-eq0-clause-packet : goal.returns-then-place-eq0-clause-packet
returns-then-place-eq0-clause-packet c =
    (take_none c.args.site c.self.inside.gone c.place_at-place.result c.self.inside.slots.items c.self.inside.firsts.items c.self.inside.lasts.items c.self.inside.count
    c.args.self.now.items c.self.invariant c.place_at-place.ensures c.if-place-eq0.true (ap (λ (v : QueueView). v.items) c.self.view_is)).0

pub returns-then-place-eq0-clause-items : goal.returns-then-place-eq0-clause-items
returns-then-place-eq0-clause-items c =
    (take_none c.args.site c.self.inside.gone c.place_at-place.result c.self.inside.slots.items c.self.inside.firsts.items c.self.inside.lasts.items c.self.inside.count
    c.args.self.now.items c.self.invariant c.place_at-place.ensures c.if-place-eq0.true (ap (λ (v : QueueView). v.items) c.self.view_is)).1

pub overflow_sub-at : goal.overflow_sub-at
overflow_sub-at c =
    let at = placed c.args.site c.self.inside.gone c.place_at-place.result c.self.inside.slots.items c.self.inside.firsts.items c.self.inside.lasts.items
    c.self.inside.count c.self.invariant c.place_at-place.ensures (omega arith) in
    let above = at.above in omega (arith, above)

pub overflow_sub-at-2 : goal.overflow_sub-at-2
overflow_sub-at-2 c =
    let at = placed c.args.site c.self.inside.gone c.place_at-place.result c.self.inside.slots.items c.self.inside.firsts.items c.self.inside.lasts.items
    c.self.inside.count c.self.invariant c.place_at-place.ensures (omega arith) in
    let above = at.above in omega (arith, above)

pub slot_at-slot-requires : goal.slot_at-slot-requires
slot_at-slot-requires c =
    (placed c.args.site c.self.inside.gone c.place_at-place.result c.self.inside.slots.items c.self.inside.firsts.items c.self.inside.lasts.items
    c.self.inside.count c.self.invariant c.place_at-place.ensures (omega arith)).within

pub set_copies-requires : goal.set_copies-requires
set_copies-requires c =
    (placed c.args.site c.self.inside.gone c.place_at-place.result c.self.inside.slots.items c.self.inside.firsts.items c.self.inside.lasts.items
    c.self.inside.count c.self.invariant c.place_at-place.ensures (omega arith)).within

pub set_copies-requires-2 : goal.set_copies-requires-2
set_copies-requires-2 c =
    (placed c.args.site c.self.inside.gone c.place_at-place.result c.self.inside.slots.items c.self.inside.firsts.items c.self.inside.lasts.items
    c.self.inside.count c.self.invariant c.place_at-place.ensures (omega arith)).within

pub invariant_of-self : goal.invariant_of-self
invariant_of-self c =
    subst (λ (ss : List Slot). QueueStands c.self.inside.gone (links ss) c.self.inside.firsts.items c.self.inside.lasts.items c.self.inside.count) (sym c.set_copies.ensures.items)
    (take_stays c.self.inside.gone (c.place_at-place.result - c.self.inside.gone - 1) (c.slot_at-slot.result.copies - 1) c.self.inside.slots.items
    c.self.inside.firsts.items c.self.inside.lasts.items c.self.inside.count c.slot_at-slot.result c.self.invariant c.slot_at-slot.ensures c.if-slot-gt1.true (omega arith))

pub returns-then-slot-gt1-clause-packet : goal.returns-then-slot-gt1-clause-packet
returns-then-slot-gt1-clause-packet c =
    let at = placed c.args.site c.self.inside.gone c.place_at-place.result c.self.inside.slots.items c.self.inside.firsts.items c.self.inside.lasts.items
    c.self.inside.count c.self.invariant c.place_at-place.ensures (omega arith) in
    take_found c.args.site c.self.inside.gone c.place_at-place.result c.self.inside.slots.items c.slot_at-slot.result c.args.self.now.items at
    c.slot_at-slot.ensures (ap (λ (v : QueueView). v.items) c.self.view_is)

pub returns-then-slot-gt1-clause-items : goal.returns-then-slot-gt1-clause-items
returns-then-slot-gt1-clause-items c =
    let at = placed c.args.site c.self.inside.gone c.place_at-place.result c.self.inside.slots.items c.self.inside.firsts.items c.self.inside.lasts.items
    c.self.inside.count c.self.invariant c.place_at-place.ensures (omega arith) in
    ap shown c.set_copies.ensures.items
    ∙ take_less c.args.site c.self.inside.gone c.place_at-place.result (c.slot_at-slot.result.copies - 1) c.self.inside.slots.items c.slot_at-slot.result c.args.self.now.items at
    c.slot_at-slot.ensures (ap (λ (v : QueueView). v.items) c.self.view_is) refl

pub invariant_of-self-2 : goal.invariant_of-self-2
invariant_of-self-2 c =
    let at = placed c.args.site c.self.inside.gone c.place_at-place.result c.self.inside.slots.items c.self.inside.firsts.items c.self.inside.lasts.items
    c.self.inside.count c.self.invariant c.place_at-place.ensures (omega arith) in
    take_leaves c.args.site c.self.inside.gone c.place_at-place.result c.drop_gone.result c.self.inside.slots.items c.drop_gone.new.slots.items c.self.inside.firsts.items
    c.self.inside.lasts.items c.self.inside.count c.slot_at-slot.result c.self.invariant at c.slot_at-slot.ensures
    (c.drop_gone.ensures.number ∙ ap (λ (ss : List Slot). gone_before (links ss)) c.set_copies-2.ensures.items)
    (c.drop_gone.ensures.items ∙ ap (drop c.drop_gone.result) c.set_copies-2.ensures.items)

pub returns-clause-packet : goal.returns-clause-packet
returns-clause-packet c =
    let at = placed c.args.site c.self.inside.gone c.place_at-place.result c.self.inside.slots.items c.self.inside.firsts.items c.self.inside.lasts.items
    c.self.inside.count c.self.invariant c.place_at-place.ensures (omega arith) in
    take_found c.args.site c.self.inside.gone c.place_at-place.result c.self.inside.slots.items c.slot_at-slot.result c.args.self.now.items at
    c.slot_at-slot.ensures (ap (λ (v : QueueView). v.items) c.self.view_is)

pub returns-clause-items : goal.returns-clause-items
returns-clause-items c =
    let at = placed c.args.site c.self.inside.gone c.place_at-place.result c.self.inside.slots.items c.self.inside.firsts.items c.self.inside.lasts.items
    c.self.inside.count c.self.invariant c.place_at-place.ensures (omega arith) in
    take_shows c.drop_gone.result (c.place_at-place.result - c.self.inside.gone - 1) c.self.inside.slots.items c.drop_gone.new.slots.items
    (c.drop_gone.ensures.number ∙ ap (λ (ss : List Slot). gone_before (links ss)) c.set_copies-2.ensures.items)
    (c.drop_gone.ensures.items ∙ ap (drop c.drop_gone.result) c.set_copies-2.ensures.items)
    ∙ take_less c.args.site c.self.inside.gone c.place_at-place.result 0 c.self.inside.slots.items c.slot_at-slot.result c.args.self.now.items at
    c.slot_at-slot.ensures (ap (λ (v : QueueView). v.items) c.self.view_is) (omega arith)
