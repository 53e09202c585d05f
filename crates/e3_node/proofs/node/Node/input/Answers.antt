use Rattle.std.proofs.Common.{◌≡◌, ◌≤◌, ◌++◌, ◌∷◌, [], ap, subst, sym, refl, Err}
use Rattle.e3_node.specs.Ends.{FellOver, HasRoomBehind, IsOneFrame, OnLogs}
use Rattle.e3_node.specs.NodeStands.{IsIn}
use Rattle.e3_node.specs.NodeView.{NodeView, disk_of}
use Rattle.e3_node.specs.declared.fault.InputFault.{InputFault}
use Rattle.e3_node.specs.site_log.Ends.{Takes, calls_for}
use Rattle.e3_types.specs.declared.entries.Why.TheVariants.{Fault}
use Rattle.e3_wire.specs.Marks.{entries_of, last_owner, scenario_of}
use Rattle.e3_world.specs.Legal.{entry_of, made_by}
use Rattle.e3_world.specs.Moves.{log_of}
use Rattle.e3_node.proofs.Inside.{disk_shown, down_shown, full_shown, keeps_shown, reason_shown}
use Rattle.e3_node.proofs.InputsByTurns.{disk_told}
use Rattle.e3_node.proofs.Steps.{input_in, node_with}
use Rattle.e3_node.proofs.node.Node.input.Goals as goal

pub take_input-requires-clause-shared : goal.take_input-requires-clause-shared
take_input-requires-clause-shared g c = record {
  stands = c.requires.shared;
  some = subst (λ (x : NodeView _). 1 ≤ x.site) (sym c.self.view_is) c.requires.standing.some;
  exists = subst (λ (x : NodeView _). x.site ≤ last_owner c.args.shared.now) (sym c.self.view_is) c.requires.standing.exists;
}

pub returns-in-Ok-clause-frame : goal.returns-in-Ok-clause-frame
returns-in-Ok-clause-frame g c =
    let sc = scenario_of c.args.shared.now in
    let h = entries_of c.args.shared.now in
    subst (λ (x : NodeView _). OnLogs (IsOneFrame g.D.Disk.meaning.meters (log_of sc h x.site) (made_by sc h x.site c.args.input).records) x.state c.take_input.new.state)
    c.self.view_is c.in-Ok.ensures.frame

pub returns-in-Err-clause-room : goal.returns-in-Err-clause-room
returns-in-Err-clause-room g c = λ why is.
    let sc = scenario_of c.args.shared.now in
    let h = entries_of c.args.shared.now in
    subst (λ (x : NodeView _). HasRoomBehind g.D.Disk.meaning.meters x.state (made_by sc h x.site c.args.input).records → why ≡ Fault) c.self.view_is (c.in-Err.ensures.room why is)

pub returns-in-Err-clause-fell : goal.returns-in-Err-clause-fell
returns-in-Err-clause-fell g c = λ why is.
    subst (λ (x : NodeView _). FellOver (scenario_of c.args.shared.now) (entries_of c.args.shared.now) x.site c.args.input why (entries_of c.take_input.new.shared))
    c.self.view_is (c.in-Err.ensures.fell why is).0

pub returns-in-Err-clause-stands : goal.returns-in-Err-clause-stands
returns-in-Err-clause-stands g c =
    let sc = scenario_of c.args.shared.now in
    let h = entries_of c.args.shared.now in
    let more = entries_of c.take_input.new.shared in
    let now : IsIn g.D.Disk.meaning sc more c.self.inside.site c.settle.new.state =
    input_in g.D.Disk.meaning sc h more c.self.inside.site c.args.input c.in-Err.fault c.take_input.new.state c.settle.new.state
    (λ none. let k = c.in-Err.ensures.kept c.in-Err.fault refl none in (k.0, k.2))
    (λ why is. c.in-Err.ensures.fell why (ap (λ (f : InputFault). Err f) is))
    c.settle.ensures.fell c.settle.ensures.kept in
    node_with g.D.Disk.meaning sc (scenario_of c.take_input.new.shared) h more c.args.self.now _ c.settle.new.state c.requires.standing
    c.take_input.ensures.shared.scenario
    (subst (λ (x : NodeView _). IsIn g.D.Disk.meaning sc more x.site c.settle.new.state) c.self.view_is now)
    (ap (λ (x : NodeView _). let n : NodeView _ = record { site = x.site; weights = x.weights; rows = x.rows; state = c.settle.new.state } in n) c.self.view_is)

pub returns-in-Ok-clause-stands : goal.returns-in-Ok-clause-stands
returns-in-Ok-clause-stands g c =
    let sc = scenario_of c.args.shared.now in
    let h = entries_of c.args.shared.now in
    let more = entries_of c.take_input.new.shared in
    let new = c.take_input.new.state in
    node_with g.D.Disk.meaning sc (scenario_of c.take_input.new.shared) h more c.args.self.now _ new c.requires.standing
    c.take_input.ensures.shared.scenario
    (subst (λ (x : NodeView _). IsIn g.D.Disk.meaning sc more x.site new) c.self.view_is c.in-Ok.ensures.up)
    (ap (λ (x : NodeView _). let n : NodeView _ = record { site = x.site; weights = x.weights; rows = x.rows; state = new } in n) c.self.view_is)

pub returns-in-Ok-clause-stepped : goal.returns-in-Ok-clause-stepped
returns-in-Ok-clause-stepped g c =
    let sc = scenario_of c.args.shared.now in
    let h = entries_of c.args.shared.now in
    subst (λ (x : NodeView _). entries_of c.take_input.new.shared ≡ h ++ entry_of sc h x.site c.args.input ∷ []) c.self.view_is c.in-Ok.ensures.stepped

pub returns-in-Ok-clause-fell : goal.returns-in-Ok-clause-fell
returns-in-Ok-clause-fell g c = λ why is. absurd cc

pub returns-in-Ok-clause-down : goal.returns-in-Ok-clause-down
returns-in-Ok-clause-down g c = down_shown _ _ c.self.view_is (entries_of c.args.shared.now) c.in-Ok.ensures.down

pub returns-in-Ok-clause-full : goal.returns-in-Ok-clause-full
returns-in-Ok-clause-full g c = full_shown _ _ c.self.view_is (entries_of c.args.shared.now) c.in-Ok.ensures.full

pub returns-in-Ok-clause-kept : goal.returns-in-Ok-clause-kept
returns-in-Ok-clause-kept g c = λ fault is none. absurd cc

pub returns-in-Ok-clause-why : goal.returns-in-Ok-clause-why
returns-in-Ok-clause-why g c = λ why is. absurd cc

pub returns-in-Ok-clause-room : goal.returns-in-Ok-clause-room
returns-in-Ok-clause-room g c = λ why is fits. absurd cc

pub returns-in-Ok-clause-meters : goal.returns-in-Ok-clause-meters
returns-in-Ok-clause-meters g c = keeps_shown _ _ c.self.view_is g.D.Disk.meaning.meters c.take_input.new.state c.take_input.new.state refl c.take_input.ensures.keeps

pub returns-in-Ok-clause-takes : goal.returns-in-Ok-clause-takes
returns-in-Ok-clause-takes g c =
    let sc = scenario_of c.args.shared.now in
    let h = entries_of c.args.shared.now in
    subst (λ (x : NodeView _). Takes (calls_for (made_by sc h x.site c.args.input).records) (g.D.Disk.meaning.meters (disk_of x.state)) (g.D.Disk.meaning.meters (disk_of c.take_input.new.state)))
    c.self.view_is c.in-Ok.ensures.takes

pub returns-in-Err-clause-down : goal.returns-in-Err-clause-down
returns-in-Err-clause-down g c = down_shown _ _ c.self.view_is (entries_of c.args.shared.now) c.in-Err.ensures.down

pub returns-in-Err-clause-full : goal.returns-in-Err-clause-full
returns-in-Err-clause-full g c = full_shown _ _ c.self.view_is (entries_of c.args.shared.now) c.in-Err.ensures.full

pub returns-in-Err-clause-kept : goal.returns-in-Err-clause-kept
returns-in-Err-clause-kept g c = λ fault is none.
    let sc = scenario_of c.args.shared.now in
    let h = entries_of c.args.shared.now in
    let same = disk_told g.D.Disk.meaning sc h (entries_of c.take_input.new.shared) c.self.inside.site c.args.input c.self.inside.state c.take_input.new.state
    c.in-Err.fault c.settle.new.state c.settle.ensures.fell c.settle.ensures.kept in
    let kept = c.in-Err.ensures.kept fault is none in
    (kept.0, disk_shown _ _ c.self.view_is c.take_input.new.state c.settle.new.state same kept.1)

pub returns-in-Err-clause-why : goal.returns-in-Err-clause-why
returns-in-Err-clause-why g c = λ why is.
    let sc = scenario_of c.args.shared.now in
    let h = entries_of c.args.shared.now in
    let same = disk_told g.D.Disk.meaning sc h (entries_of c.take_input.new.shared) c.self.inside.site c.args.input c.self.inside.state c.take_input.new.state
    c.in-Err.fault c.settle.new.state c.settle.ensures.fell c.settle.ensures.kept in
    reason_shown _ _ c.self.view_is g.D.Disk.meaning.meters c.take_input.new.state c.settle.new.state same sc h c.args.input why (c.in-Err.ensures.why why is)

pub returns-in-Err-clause-meters : goal.returns-in-Err-clause-meters
returns-in-Err-clause-meters g c =
    let sc = scenario_of c.args.shared.now in
    let h = entries_of c.args.shared.now in
    let same = disk_told g.D.Disk.meaning sc h (entries_of c.take_input.new.shared) c.self.inside.site c.args.input c.self.inside.state c.take_input.new.state
    c.in-Err.fault c.settle.new.state c.settle.ensures.fell c.settle.ensures.kept in
    keeps_shown _ _ c.self.view_is g.D.Disk.meaning.meters c.take_input.new.state c.settle.new.state same c.take_input.ensures.keeps
