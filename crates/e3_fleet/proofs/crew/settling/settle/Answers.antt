use Rattle.std.proofs.Common.{◌≡◌, ◌+◌, ◌<◌, ◌∙◌, [], ℕ, ap, arith, inl, inr, length, subst, sym}
use Rattle.std.specs.Prelude.{Err, Ok, OnOk, Result}
use Rattle.std.specs.Result.{IsErrAnd}
use Rattle.e3_fleet.proofs.crew.Further.{begun_on, crew_same, delivering_back, delivering_on, full_on, gone_further, gone_none, ok_of}
use Rattle.e3_node.specs.Turns.{history_seen, scenario_seen}
use Rattle.e3_play.specs.Delivered.{IsFullBefore, IsItemDue, IsItemOrPacket, IsPacketDue}
use Rattle.e3_play.specs.declared.sites.RunFault.{RunFault}
use Rattle.e3_play.specs.declared.sites.RunFault.TheVariants.{HistoryFull}
use Rattle.e3_play.proofs.DuePackets.{full_too}
use Rattle.e3_turn.specs.Passes.{seen_by}
use Rattle.e3_types.specs.declared.scenarios.Scenario.{Scenario}
use Rattle.e3_wire.specs.Marks.{most_of}
use Rattle.e3_world.specs.Items.{inputs_to}
use Rattle.e3_world.specs.Packets.{pending}
use Rattle.e3_fleet.proofs.crew.settling.settle.Goals as goal

pub returns-in_err-hand_out-clause-crew : goal.returns-in_err-hand_out-clause-crew
returns-in_err-hand_out-clause-crew g c = (crew_same g.D.Disk.meaning c.args.wire.now c.args.pass.now c.args.workers.now c.hand_out.new.workers c.requires.crew c.hand_out.auto.workers c.hand_out.ensures.same)

pub returns-in_err-hand_out-clause-on : goal.returns-in_err-hand_out-clause-on
returns-in_err-hand_out-clause-on g c = (gone_none g.D.Disk.meaning.meters (seen_by c.args.pass.now) c.args.workers.now c.hand_out.new.workers c.hand_out.auto.workers c.hand_out.ensures.same)

pub item_round-requires-clause-crew : goal.item_round-requires-clause-crew
item_round-requires-clause-crew g c κs lives = (crew_same g.D.Disk.meaning c.args.wire.now c.args.pass.now c.args.workers.now c.hand_out.new.workers c.requires.crew c.hand_out.auto.workers c.hand_out.ensures.same)

pub item_round-requires-clause-items : goal.item_round-requires-clause-items
item_round-requires-clause-items g c κs lives i d less =
    let low : i < length c.args.workers.now = omega (arith, less, c.hand_out.auto.workers) in
    c.in_ok-hand_out.ensures.items i d low ∙ ap (λ (s : ℕ). inputs_to s c.args.inputs.now) (c.requires.crew.each i d low).site ∙ ap (inputs_to (i + 1)) c.requires.asked

pub returns-in_err-item_round-clause-on : goal.returns-in_err-item_round-clause-on
returns-in_err-item_round-clause-on g c = (gone_further g.D.Disk.meaning.meters (seen_by c.args.pass.now) (seen_by c.args.pass.now) (seen_by c.item_round.new.pass) c.args.workers.now c.hand_out.new.workers c.item_round.new.workers (gone_none g.D.Disk.meaning.meters (seen_by c.args.pass.now) c.args.workers.now c.hand_out.new.workers c.hand_out.auto.workers c.hand_out.ensures.same) c.item_round.ensures.on)

pub deliver-requires-after_bounds : goal.deliver-requires-after_bounds
deliver-requires-after_bounds g c κs lives = record {
  crew = c.item_round.ensures.crew;
  begun = begun_on (history_seen c.args.pass.now) (history_seen c.item_round.new.pass) (scenario_seen c.args.pass.now) c.item_round.ensures.on.grown c.requires.begun;
  delivering = delivering_back (seen_by c.args.pass.now) (seen_by c.item_round.new.pass) c.item_round.ensures.on.scenario (history_seen c.item_round.new.pass) c.in_ok-item_round.ensures.done;
}

pub returns-clause-crew : goal.returns-clause-crew
returns-clause-crew g c = c.deliver.ensures.went.crew

pub returns-clause-on : goal.returns-clause-on
returns-clause-on g c = (gone_further g.D.Disk.meaning.meters (seen_by c.args.pass.now) (seen_by c.item_round.new.pass) (seen_by c.deliver.new.pass) c.args.workers.now c.item_round.new.workers c.deliver.new.workers (gone_further g.D.Disk.meaning.meters (seen_by c.args.pass.now) (seen_by c.args.pass.now) (seen_by c.item_round.new.pass) c.args.workers.now c.hand_out.new.workers c.item_round.new.workers (gone_none g.D.Disk.meaning.meters (seen_by c.args.pass.now) c.args.workers.now c.hand_out.new.workers c.hand_out.auto.workers c.hand_out.ensures.same) c.item_round.ensures.on) c.deliver.ensures.went.on)

pub returns-clause-delivering : goal.returns-clause-delivering
returns-clause-delivering g c =
    ok_of c.deliver.result (delivering_on (seen_by c.args.pass.now) (seen_by c.item_round.new.pass) c.item_round.ensures.on.scenario (history_seen c.deliver.new.pass) c.deliver.ensures.went.delivering)

pub returns-clause-settled : goal.returns-clause-settled
returns-clause-settled g c =
    let P : Scenario → Type 0 = λ sc. OnOk c.deliver.result (pending sc (history_seen c.deliver.new.pass) ≡ []) in
    subst P c.item_round.ensures.on.scenario c.deliver.ensures.settled

-- what `?` hands on is the error that it was given
err_is : (r : Result (Unit {0}) RunFault) (x y : RunFault) → IsErrAnd r (λ e. e ≡ x) → r ≡ Err y → x ≡ y
err_is (Ok done) x y made is = absurd cc
err_is (Err e) x y made is = let one : e ≡ y = cc in sym made ∙ one

pub returns-in_err-item_round-clause-full : goal.returns-in_err-item_round-clause-full
returns-in_err-item_round-clause-full g c = λ is.
    let sc = scenario_seen c.args.pass.now in
    let h = history_seen c.item_round.new.pass in
    let most = most_of (seen_by c.args.pass.now) in
    let same : c.item_round.result ≡ Err HistoryFull = c.in_err-item_round.was ∙ ap Err (err_is c.from_residual-in_err-item_round.result c.in_err-item_round.field-0.0 HistoryFull c.from_residual-in_err-item_round.ensures.1 is) in
    let full : IsFullBefore IsItemDue sc h most = c.item_round.ensures.full same in
    full_too IsItemDue IsItemOrPacket sc h most (λ due. inl due) full

pub returns-clause-full : goal.returns-clause-full
returns-clause-full g c = λ is.
    full_on IsItemOrPacket (seen_by c.args.pass.now) (seen_by c.item_round.new.pass) c.item_round.ensures.on.scenario c.item_round.ensures.on.most (history_seen c.deliver.new.pass)
    (full_too IsPacketDue IsItemOrPacket (scenario_seen c.item_round.new.pass) (history_seen c.deliver.new.pass) (most_of (seen_by c.item_round.new.pass)) (λ due. inr due) (c.deliver.ensures.full is))
