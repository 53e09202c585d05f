use Rattle.std.proofs.Common.{◌-◌, ◌+◌, ◌∙◌, ap, sym, refl, arith}
use Rattle.e3_net.specs.Chains.{QueueView, shown}
use Rattle.e3_net.proofs.Queueing.{add_first_slot, add_next_slot, added_shows, count_few, last_placed}
use Rattle.e3_net.proofs.Rows.{shown_next}
use Rattle.e3_net.proofs.queue.Queue.add.Goals as goal

pub overflow_add-self : goal.overflow_add-self
overflow_add-self c =
    let few = count_few c.self.inside.gone c.self.inside.slots.items c.self.inside.firsts.items c.self.inside.lasts.items c.self.inside.count c.self.invariant in
    let given = ap (λ (v : QueueView). v.given) c.self.view_is in
    let asked = c.requires.few in
    omega (arith, few, given, asked)

pub invariant_of-self : goal.invariant_of-self
invariant_of-self c =
    let given = ap (λ (v : QueueView). v.given) c.self.view_is in
    let asked = c.requires.few in
    let length_is = c.len.ensures in
    let slots_ok = c.self.inside.slots.ok in
    add_first_slot c.self.inside.gone c.self.inside.slots.items c.push_back_reserved.new.self.items c.self.inside.firsts.items c.self.inside.lasts.items c.self.inside.count
    c.args.packet.to (c.self.inside.gone + c.len.result + 1) (record { packet = c.args.packet; copies = c.args.copies; next = 0 }) c.self.invariant
    c.push_back_reserved.ensures.items (sym c.place_at.ensures ∙ c.if-place_at-eq0.true) (c.requires.low (omega arith)) (omega (arith, length_is, slots_ok))
    (omega (arith, given, asked, length_is, slots_ok)) (omega arith) refl refl

pub returns-then-place_at-eq0-clause-items : goal.returns-then-place_at-eq0-clause-items
returns-then-place_at-eq0-clause-items c =
    added_shows c.self.inside.slots.items c.push_back_reserved.new.self.items (record { packet = c.args.packet; copies = c.args.copies; next = 0 }) c.args.self.now.items
    c.push_back_reserved.ensures.items (ap (λ (v : QueueView). v.items) c.self.view_is)

pub overflow_sub-last : goal.overflow_sub-last
overflow_sub-last c =
    let has = c.place_at.ensures in
    let last = last_placed c.self.inside.gone c.self.inside.slots.items c.self.inside.firsts.items c.self.inside.lasts.items c.self.inside.count c.args.packet.to
    c.place_at-last.result c.self.invariant (omega (arith, has)) c.place_at-last.ensures in
    let above = last.above in omega (arith, above)

pub overflow_sub-last-2 : goal.overflow_sub-last-2
overflow_sub-last-2 c =
    let has = c.place_at.ensures in
    let last = last_placed c.self.inside.gone c.self.inside.slots.items c.self.inside.firsts.items c.self.inside.lasts.items c.self.inside.count c.args.packet.to
    c.place_at-last.result c.self.invariant (omega (arith, has)) c.place_at-last.ensures in
    let above = last.above in omega (arith, above)

pub set_next-requires : goal.set_next-requires
set_next-requires c =
    let has = c.place_at.ensures in
    (last_placed c.self.inside.gone c.self.inside.slots.items c.self.inside.firsts.items c.self.inside.lasts.items c.self.inside.count c.args.packet.to
    c.place_at-last.result c.self.invariant (omega (arith, has)) c.place_at-last.ensures).within

pub overflow_add-self-2 : goal.overflow_add-self-2
overflow_add-self-2 c =
    let few = count_few c.self.inside.gone c.self.inside.slots.items c.self.inside.firsts.items c.self.inside.lasts.items c.self.inside.count c.self.invariant in
    let given = ap (λ (v : QueueView). v.given) c.self.view_is in
    let asked = c.requires.few in
    omega (arith, few, given, asked)

pub invariant_of-self-2 : goal.invariant_of-self-2
invariant_of-self-2 c =
    let has = c.place_at.ensures in
    let given = ap (λ (v : QueueView). v.given) c.self.view_is in
    let asked = c.requires.few in
    let length_is = c.len.ensures in
    let slots_ok = c.self.inside.slots.ok in
    add_next_slot c.self.inside.gone c.self.inside.slots.items c.set_next.new.slots.items c.push_back_reserved-2.new.self.items c.self.inside.firsts.items c.self.inside.lasts.items
    c.self.inside.count c.args.packet.to (c.self.inside.gone + c.len.result + 1) c.place_at-last.result (record { packet = c.args.packet; copies = c.args.copies; next = 0 })
    c.self.invariant (omega (arith, has)) c.place_at-last.ensures c.set_next.ensures.items c.push_back_reserved-2.ensures.items (c.requires.low (omega arith))
    (omega (arith, length_is, slots_ok)) (omega (arith, given, asked, length_is, slots_ok)) (omega arith) refl refl

pub returns-clause-items : goal.returns-clause-items
returns-clause-items c =
    added_shows c.set_next.new.slots.items c.push_back_reserved-2.new.self.items (record { packet = c.args.packet; copies = c.args.copies; next = 0 }) c.args.self.now.items
    c.push_back_reserved-2.ensures.items
    (let same = c.set_next.ensures.items in ap shown same ∙ shown_next c.self.inside.slots.items (c.place_at-last.result - c.self.inside.gone - 1) (c.self.inside.gone + c.len.result + 1) ∙ ap (λ (v : QueueView). v.items) c.self.view_is)
