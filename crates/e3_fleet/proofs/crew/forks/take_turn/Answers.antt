use Rattle.std.proofs.Common.{◌∙◌}
use Rattle.e3_turn.specs.Passes.{seen_by}
use Rattle.e3_fleet.proofs.crew.Taking.{pass_to_take, took_items, took_packets}
use Rattle.e3_fleet.proofs.crew.forks.take_turn.Goals as goal
use Rattle.e3_fleet.proofs.crew.forks.take_turn.Goals.{in-Items, in-Packets}

pub take_pass-pass-requires : goal.take_pass-pass-requires
take_pass-pass-requires g c = pass_to_take g.D.Disk.meaning c.args.works.now.wire.now c.args.worker.now c.args.turn c.requires

pub returns : goal.returns
returns g c =
    let taken = c.take_pass-pass.ensures in elim c.match-turn.branch [
      | in-Items w ↦
          let e = w.give_items-worker.ensures in rw (w.in-Items.is, w.worker-is, w.pass-is, w.worker2-is)
          (took_items g.D.Disk.meaning c.args.works.now.wire.now c.args.worker.now (seen_by c.take_pass-pass.result) c.take_pass-pass.new.worker.node
          w.as_slice.result.now w.give_items-worker.new.pass w.give_items-worker.new.node c.take_pass-pass.new.worker.items w.give_items-worker.result
          taken.seen taken.same.node (w.as_slice.ensures ∙ taken.same.items) e.pass e.worked e.done e.full e.none_back)
      | in-Packets w ↦
          let e = w.give_packets-worker.ensures in rw (w.in-Packets.is, w.worker-is, w.pass-is, w.worker2-is)
          (took_packets g.D.Disk.meaning c.args.works.now.wire.now c.args.worker.now (seen_by c.take_pass-pass.result) c.take_pass-pass.new.worker.node
          w.give_packets-worker.new.pass w.give_packets-worker.new.node c.take_pass-pass.new.worker.items w.give_packets-worker.result
          taken.seen taken.same.node e.pass e.worked e.done)
    ]
