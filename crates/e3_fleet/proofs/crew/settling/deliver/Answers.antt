use Rattle.std.proofs.Common.{rules, ◌≡◌, Err, refl}
use Rattle.e3_fleet.proofs.crew.Further.{begun_on, delivering_back, delivering_on, full_on, gone_further, gone_none, settled_on}
use Rattle.e3_node.specs.Turns.{history_seen, scenario_seen}
use Rattle.e3_play.specs.Delivered.{IsPacketDue}
use Rattle.e3_play.specs.declared.sites.RunFault.TheVariants.{HistoryFull}
use Rattle.e3_turn.specs.Passes.{seen_by}
use Rattle.e3_fleet.proofs.crew.settling.deliver.Goals as goal

pub loop-init : goal.loop-init
loop-init g c = record {
  crew = c.requires.crew;
  on = gone_none g.D.Disk.meaning.meters (seen_by c.args.pass.now) c.args.workers.now c.args.workers.now refl (λ i d low. refl);
  delivering = c.requires.delivering;
}

pub drop_down-requires : goal.drop_down-requires
drop_down-requires g c = record {
  crew = c.loop.invariant.crew;
  begun = begun_on (history_seen c.args.pass.now) (history_seen c.loop.pass) (scenario_seen c.args.pass.now) c.loop.invariant.on.grown c.requires.begun;
  delivering = delivering_back (seen_by c.args.pass.now) (seen_by c.loop.pass) c.loop.invariant.on.scenario (history_seen c.loop.pass) c.loop.invariant.delivering;
}

pub packet_round-requires-after_bounds : goal.packet_round-requires-after_bounds
packet_round-requires-after_bounds g c κs lives = record {
  crew = c.drop_down.ensures.went.crew;
  begun =
      (let on = (gone_further g.D.Disk.meaning.meters (seen_by c.args.pass.now) (seen_by c.loop.pass) (seen_by c.drop_down.new.pass) c.args.workers.now c.loop.workers c.loop.workers c.loop.invariant.on c.drop_down.ensures.went.on) in
      begun_on (history_seen c.args.pass.now) (history_seen c.drop_down.new.pass) (scenario_seen c.args.pass.now) on.grown c.requires.begun);
  delivering =
      delivering_back (seen_by c.loop.pass) (seen_by c.drop_down.new.pass) c.drop_down.ensures.went.on.scenario (history_seen c.drop_down.new.pass) c.drop_down.ensures.went.delivering;
}

pub loop-preserved : goal.loop-preserved
loop-preserved g c = record {
  crew = c.packet_round.ensures.went.crew;
  on = (gone_further g.D.Disk.meaning.meters (seen_by c.args.pass.now) (seen_by c.drop_down.new.pass) (seen_by c.packet_round.new.pass) c.args.workers.now c.loop.workers c.packet_round.new.workers (gone_further g.D.Disk.meaning.meters (seen_by c.args.pass.now) (seen_by c.loop.pass) (seen_by c.drop_down.new.pass) c.args.workers.now c.loop.workers c.loop.workers c.loop.invariant.on c.drop_down.ensures.went.on) c.packet_round.ensures.went.on);
  delivering =
      (let on = (gone_further g.D.Disk.meaning.meters (seen_by c.args.pass.now) (seen_by c.loop.pass) (seen_by c.drop_down.new.pass) c.args.workers.now c.loop.workers c.loop.workers c.loop.invariant.on c.drop_down.ensures.went.on) in
      delivering_on (seen_by c.args.pass.now) (seen_by c.drop_down.new.pass) on.scenario (history_seen c.packet_round.new.pass) c.packet_round.ensures.went.delivering);
}

pub returns-in_default-clause-went : goal.returns-in_default-clause-went
returns-in_default-clause-went g c = record {
  crew = c.drop_down.ensures.went.crew;
  on = gone_further g.D.Disk.meaning.meters (seen_by c.args.pass.now) (seen_by c.loop.pass) (seen_by c.drop_down.new.pass) c.args.workers.now c.loop.workers c.loop.workers c.loop.invariant.on c.drop_down.ensures.went.on;
  delivering = delivering_on (seen_by c.args.pass.now) (seen_by c.loop.pass) c.loop.invariant.on.scenario (history_seen c.drop_down.new.pass) c.drop_down.ensures.went.delivering;
}

pub returns-in_err-busy-clause-went : goal.returns-in_err-busy-clause-went
returns-in_err-busy-clause-went g c = record {
  crew = c.drop_down.ensures.went.crew;
  on = gone_further g.D.Disk.meaning.meters (seen_by c.args.pass.now) (seen_by c.loop.pass) (seen_by c.drop_down.new.pass) c.args.workers.now c.loop.workers c.loop.workers c.loop.invariant.on c.drop_down.ensures.went.on;
  delivering = delivering_on (seen_by c.args.pass.now) (seen_by c.loop.pass) c.loop.invariant.on.scenario (history_seen c.drop_down.new.pass) c.drop_down.ensures.went.delivering;
}

pub returns-in_default-clause-settled : goal.returns-in_default-clause-settled
returns-in_default-clause-settled g c = settled_on (seen_by c.args.pass.now) (seen_by c.loop.pass) c.loop.invariant.on.scenario (history_seen c.drop_down.new.pass) (c.in_ok-busy.ensures.none (search rules))

pub returns-in_err-busy-clause-full : goal.returns-in_err-busy-clause-full
returns-in_err-busy-clause-full g c = λ is.
    let full : c.drop_down.result ≡ Err HistoryFull = search rules in
    full_on IsPacketDue (seen_by c.args.pass.now) (seen_by c.loop.pass) c.loop.invariant.on.scenario c.loop.invariant.on.most (history_seen c.drop_down.new.pass) (c.drop_down.ensures.full full)

pub returns-in_err-packet_round-clause-went : goal.returns-in_err-packet_round-clause-went
returns-in_err-packet_round-clause-went g c = record {
  crew = c.packet_round.ensures.went.crew;
  on = gone_further g.D.Disk.meaning.meters (seen_by c.args.pass.now) (seen_by c.drop_down.new.pass) (seen_by c.packet_round.new.pass) c.args.workers.now c.loop.workers c.packet_round.new.workers (gone_further g.D.Disk.meaning.meters (seen_by c.args.pass.now) (seen_by c.loop.pass) (seen_by c.drop_down.new.pass) c.args.workers.now c.loop.workers c.loop.workers c.loop.invariant.on c.drop_down.ensures.went.on) c.packet_round.ensures.went.on;
  delivering = (let on = (gone_further g.D.Disk.meaning.meters (seen_by c.args.pass.now) (seen_by c.loop.pass) (seen_by c.drop_down.new.pass) c.args.workers.now c.loop.workers c.loop.workers c.loop.invariant.on c.drop_down.ensures.went.on) in
      delivering_on (seen_by c.args.pass.now) (seen_by c.drop_down.new.pass) on.scenario (history_seen c.packet_round.new.pass) c.packet_round.ensures.went.delivering);
}

pub returns-in_err-packet_round-clause-full : goal.returns-in_err-packet_round-clause-full
returns-in_err-packet_round-clause-full g c = λ is.
    let full : c.packet_round.result ≡ Err HistoryFull = search rules in
    absurd (c.packet_round.ensures.never full)
