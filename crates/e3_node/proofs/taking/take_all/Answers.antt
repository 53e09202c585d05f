use Rattle.std.proofs.Common.{ℕ, refl, subst, sym, ◌∙◌}
use Rattle.std.specs.Prelude.{Result}
use Rattle.e3_node.specs.Batches.{BatchEnded}
use Rattle.e3_node.specs.Ending.{EndsWith}
use Rattle.e3_node.specs.NodeStands.{IsIn}
use Rattle.e3_node.specs.NodeView.{disk_of}
use Rattle.e3_node.specs.Turns.{history_seen, scenario_seen}
use Rattle.e3_node.specs.declared.fault.InputFault.{InputFault}
use Rattle.e3_node.specs.declared.state.State.{State}
use Rattle.e3_node.specs.declared.state.State.TheVariants.{Up}
use Rattle.e3_node.proofs.Ended.{ended_told, ended_up, refused_down}
use Rattle.e3_node.proofs.Metering.{keeps_same}
use Rattle.e3_node.proofs.Waiting.{same_turn}
use Rattle.e3_node.proofs.taking.take_all.Goals as goal

-- a site that was down did nothing
pub returns-in-Down-clause-turned : goal.returns-in-Down-clause-turned
returns-in-Down-clause-turned g c = same_turn c.args.wire.now c.args.pass.now c.requires.turns.idle c.requires.turns.played

pub returns-in-Down-clause-ended : goal.returns-in-Down-clause-ended
returns-in-Down-clause-ended g c = (refl, refl)

pub returns-in-Down-clause-never : goal.returns-in-Down-clause-never
returns-in-Down-clause-never g c = λ is. absurd cc

pub returns-in-Down-clause-keeps : goal.returns-in-Down-clause-keeps
returns-in-Down-clause-keeps g c = keeps_same (g.D.Disk.meaning.meters (disk_of c.args.state.now))

pub returns-in-Up-clause-stands : goal.returns-in-Up-clause-stands
returns-in-Up-clause-stands g c =
    let e = c.step_all-end.result in
    let sc = scenario_seen c.args.pass.now in
    let h = history_seen c.args.pass.now in
    let more = history_seen c.step_all-end.new.pass in
    let mid = Up c.step_all-end.new.site c.step_all-end.new.log c.in-Up.rose c.step_all-end.new.logged in
    let ends : EndsWith g.D.Disk.meaning sc h more c.args.number c.args.inputs c.args.state.now mid e.planned e.fell =
    subst (λ (s : State _). EndsWith g.D.Disk.meaning sc h more c.args.number c.args.inputs s mid e.planned e.fell) (sym c.in-Up.is) c.step_all-end.ensures.ended in
    let behind = ended_up g.D.Disk.meaning sc h more c.args.number c.args.inputs c.args.state.now mid c.settle_batch.new.state
    e.planned e.fell ends c.settle_batch.ensures.fell c.settle_batch.ensures.kept in
    behind.stands

pub returns-in-Up-clause-keeps : goal.returns-in-Up-clause-keeps
returns-in-Up-clause-keeps g c =
    let e = c.step_all-end.result in
    let sc = scenario_seen c.args.pass.now in
    let h = history_seen c.args.pass.now in
    let more = history_seen c.step_all-end.new.pass in
    let mid = Up c.step_all-end.new.site c.step_all-end.new.log c.in-Up.rose c.step_all-end.new.logged in
    let ends : EndsWith g.D.Disk.meaning sc h more c.args.number c.args.inputs c.args.state.now mid e.planned e.fell =
    subst (λ (s : State _). EndsWith g.D.Disk.meaning sc h more c.args.number c.args.inputs s mid e.planned e.fell) (sym c.in-Up.is) c.step_all-end.ensures.ended in
    let behind = ended_up g.D.Disk.meaning sc h more c.args.number c.args.inputs c.args.state.now mid c.settle_batch.new.state
    e.planned e.fell ends c.settle_batch.ensures.fell c.settle_batch.ensures.kept in
    behind.keeps

pub returns-in-Up-clause-ended : goal.returns-in-Up-clause-ended
returns-in-Up-clause-ended g c =
    let e = c.step_all-end.result in
    let sc = scenario_seen c.args.pass.now in
    let h = history_seen c.args.pass.now in
    let more = history_seen c.step_all-end.new.pass in
    let mid = Up c.step_all-end.new.site c.step_all-end.new.log c.in-Up.rose c.step_all-end.new.logged in
    let ends : EndsWith g.D.Disk.meaning sc h more c.args.number c.args.inputs c.args.state.now mid e.planned e.fell =
    subst (λ (s : State _). EndsWith g.D.Disk.meaning sc h more c.args.number c.args.inputs s mid e.planned e.fell) (sym c.in-Up.is) c.step_all-end.ensures.ended in
    subst (λ (x : Result ℕ InputFault). BatchEnded g.D.Disk.meaning.meters sc h more c.args.number c.args.inputs c.args.state.now c.settle_batch.new.state x) (sym c.answer_of.ensures)
    (ended_told g.D.Disk.meaning sc h more c.args.number c.args.inputs c.args.state.now mid c.settle_batch.new.state
    e.planned e.fell c.step_all-end.ensures.refused ends c.settle_batch.ensures.fell c.settle_batch.ensures.kept)

pub returns-in-Up-clause-never : goal.returns-in-Up-clause-never
returns-in-Up-clause-never g c =
    let e = c.step_all-end.result in
    let sc = scenario_seen c.args.pass.now in
    let h = history_seen c.args.pass.now in
    let more = history_seen c.step_all-end.new.pass in
    let mid = Up c.step_all-end.new.site c.step_all-end.new.log c.in-Up.rose c.step_all-end.new.logged in
    let ends : EndsWith g.D.Disk.meaning sc h more c.args.number c.args.inputs c.args.state.now mid e.planned e.fell =
    subst (λ (s : State _). EndsWith g.D.Disk.meaning sc h more c.args.number c.args.inputs s mid e.planned e.fell) (sym c.in-Up.is) c.step_all-end.ensures.ended in
    λ is. subst (λ (x : Result ℕ InputFault). BatchEnded g.D.Disk.meaning.meters sc h more c.args.number c.args.inputs c.args.state.now c.settle_batch.new.state x) (sym c.answer_of.ensures ∙ is)
    (ended_told g.D.Disk.meaning sc h more c.args.number c.args.inputs c.args.state.now mid c.settle_batch.new.state
    e.planned e.fell c.step_all-end.ensures.refused ends c.settle_batch.ensures.fell c.settle_batch.ensures.kept)

pub returns-in-Up-clause-down : goal.returns-in-Up-clause-down
returns-in-Up-clause-down g c =
    let e = c.step_all-end.result in
    let sc = scenario_seen c.args.pass.now in
    let h = history_seen c.args.pass.now in
    let stood = subst (λ (s : State _). IsIn g.D.Disk.meaning sc h c.args.number s) c.in-Up.is c.requires.stands in (
      λ is. absurd (c.step_all-end.ensures.never (refused_down e.planned e.fell (sym c.answer_of.ensures ∙ is))),
      λ none. absurd (let both = sym none ∙ stood.up in cc),
    )
