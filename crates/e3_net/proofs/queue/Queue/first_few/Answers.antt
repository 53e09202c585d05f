use Rattle.std.proofs.Common.{◌≡◌, ◌≤◌, List, length, take, ◌∙◌, ap, subst, sym, arith}
use Rattle.e3_types.specs.declared.messages.Packet.{Packet}
use Rattle.e3_net.specs.Chains.{QueueView}
use Rattle.e3_net.specs.Traffic.{queue_in}
use Rattle.e3_net.proofs.Walking.{Walked, walk_ends, walk_full, walk_goes, walk_index, walk_shrinks, walk_starts}
use Rattle.e3_net.proofs.queue.Queue.first_few.Goals as goal
use Rattle.e3_net.proofs.queue.Queue.first_few.Goals.{then-walk-test+else-len-from, else-walk-test}

pub walk-init : goal.walk-init
walk-init c =
    subst (λ (l : List Packet). Walked c.args.most c.args.site c.self.inside.gone c.self.inside.slots.items l c.place_at-place.result) (sym c.new-few.ensures)
    (walk_starts c.args.most c.args.site c.self.inside.gone c.place_at-place.result c.self.inside.slots.items c.self.inside.firsts.items c.self.inside.lasts.items
    c.self.inside.count c.self.invariant c.place_at-place.ensures)

pub overflow_sub-place : goal.overflow_sub-place
overflow_sub-place c =
    let around = walk_index c.args.most c.args.site c.self.inside.gone c.walk.place c.self.inside.slots.items c.walk.few c.walk.invariant c.walk-test.true in
    let low = around.0 in omega (arith, low)

pub overflow_sub-place-in-walk : goal.overflow_sub-place-in-walk
overflow_sub-place-in-walk c =
    let around = walk_index c.args.most c.args.site c.self.inside.gone c.walk.place c.self.inside.slots.items c.walk.few c.walk.invariant c.walk-test.true in
    let low = around.0 in omega (arith, low)

pub index-w-requires : goal.index-w-requires
index-w-requires c =
    let around = walk_index c.args.most c.args.site c.self.inside.gone c.walk.place c.self.inside.slots.items c.walk.few c.walk.invariant c.walk-test.true in
    let within = around.1 in omega (arith, within, c.self.inside.slots.ok)

pub walk-smaller : goal.walk-smaller
walk-smaller c =
    walk_shrinks c.args.most c.args.site c.self.inside.gone c.walk.place c.self.inside.slots.items c.self.inside.firsts.items c.self.inside.lasts.items c.self.inside.count
    c.walk.few c.index-w.result.now c.self.invariant c.walk.invariant c.walk-test.true c.index-w.ensures

pub walk-preserved : goal.walk-preserved
walk-preserved c =
    walk_goes c.args.most c.args.site c.self.inside.gone c.walk.place c.self.inside.slots.items c.self.inside.firsts.items c.self.inside.lasts.items c.self.inside.count
    c.walk.few c.add_copies.new.out c.index-w.result.now c.self.invariant c.walk.invariant c.walk-test.true c.index-w.ensures c.in_ok-add_copies.ensures

pub returns : goal.returns
returns c =
    elim c.walk-test.branch [
      | then-walk-test+else-len-from w ↦
          let full : c.args.most ≤ length c.walk.few = (let a = w.len.ensures in let b = w.from.ensures in let d = w.if-len-from.false in omega (arith, a, b, d)) in
          walk_full c.args.most c.args.site c.self.inside.gone c.walk.place c.self.inside.slots.items c.walk.few c.walk.invariant full
          ∙ ap (λ (v : QueueView). take c.args.most (queue_in c.args.site v.items)) c.self.view_is
      | else-walk-test w ↦
          let none : c.walk.place ≡ 0 = (let d = w.walk-test.false in omega (arith, d)) in
          walk_ends c.args.most c.args.site c.self.inside.gone c.walk.place c.self.inside.slots.items c.walk.few c.walk.invariant none
          ∙ ap (λ (v : QueueView). take c.args.most (queue_in c.args.site v.items)) c.self.view_is
    ]
