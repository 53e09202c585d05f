use Rattle.std.proofs.Common.{◌≡◌, ◌≤◌, ◌++◌, ◌∷◌, ◌∙◌, [], ap, refl, subst, sym, List}
use Rattle.e3_node.specs.Ends.{FellOver, HasRoomBehind, IsOneFrame, OnLogs, is_fall}
use Rattle.e3_node.specs.NodeStands.{IsIn}
use Rattle.e3_node.specs.Places.{HasGivenNoneBack}
use Rattle.e3_node.specs.NodeView.{NodeView, disk_of}
use Rattle.e3_node.specs.declared.fault.InputFault.TheVariants as input_fault
use Rattle.e3_node.specs.Turns.{HasKeptPromises, Meanwhile, history_seen, scenario_seen}
use Rattle.e3_node.specs.site_log.Ends.{Takes, calls_for}
use Rattle.e3_types.specs.declared.entries.Entry.{Entry}
use Rattle.e3_types.specs.declared.entries.Why.TheVariants.{Fault}
use Rattle.e3_turn.specs.Passes.{Owns, seen_by}
use Rattle.e3_wire.specs.Marks.{last_owner}
use Rattle.e3_world.specs.Legal.{entry_of, made_by}
use Rattle.e3_world.specs.Moves.{log_of}
use Rattle.e3_node.proofs.Steps.{node_with}
use Rattle.e3_node.proofs.Inside.{disk_shown, down_shown, keeps_shown, reason_shown}
use Rattle.e3_node.proofs.InputsByTurns.{disk_told, fell_told, in_told, kept_told}
use Rattle.e3_node.proofs.Waiting.{keys_stay}
use Rattle.e3_node.proofs.node.Node.input_by_turns.Goals as goal

pub take_by_turns-requires-clause-turns : goal.take_by_turns-requires-clause-turns
take_by_turns-requires-clause-turns g c =
    let p = c.args.pass.now in
    record {
      idle = c.requires.turns.idle;
      owns = subst (λ (x : NodeView _). Owns p x.site) (sym c.self.view_is) c.requires.turns.owns;
      played = c.requires.turns.played;
      some = subst (λ (x : NodeView _). 1 ≤ x.site) (sym c.self.view_is) c.requires.turns.stands.some;
      exists = subst (λ (x : NodeView _). x.site ≤ last_owner (seen_by p)) (sym c.self.view_is) c.requires.turns.stands.exists;
      restless = c.requires.turns.restless;
    }

pub returns-in-Ok-clause-takes : goal.returns-in-Ok-clause-takes
returns-in-Ok-clause-takes g c =
    let sc = scenario_seen c.args.pass.now in
    let h = history_seen c.args.pass.now in
    subst (λ (x : NodeView _). Takes (calls_for (made_by sc h x.site c.args.input).records) (g.D.Disk.meaning.meters (disk_of x.state)) (g.D.Disk.meaning.meters (disk_of c.take_by_turns.new.state)))
    c.self.view_is c.in-Ok.ensures.takes

pub returns-in-Ok-clause-frame : goal.returns-in-Ok-clause-frame
returns-in-Ok-clause-frame g c =
    let sc = scenario_seen c.args.pass.now in
    let h = history_seen c.args.pass.now in
    subst (λ (x : NodeView _). OnLogs (IsOneFrame g.D.Disk.meaning.meters (log_of sc h x.site) (made_by sc h x.site c.args.input).records) x.state c.take_by_turns.new.state)
    c.self.view_is c.in-Ok.ensures.frame

pub returns-in-Err-clause-room : goal.returns-in-Err-clause-room
returns-in-Err-clause-room g c = λ why is.
    let sc = scenario_seen c.args.pass.now in
    let h = history_seen c.args.pass.now in
    subst (λ (x : NodeView _). HasRoomBehind g.D.Disk.meaning.meters x.state (made_by sc h x.site c.args.input).records → why ≡ Fault) c.self.view_is (c.in-Err.ensures.room why is)

pub returns-in-Ok-clause-turned : goal.returns-in-Ok-clause-turned
returns-in-Ok-clause-turned g c =
    subst (λ (x : NodeView _). HasKeptPromises c.args.wire.now x.site c.args.pass.now c.take_by_turns.new.pass) c.self.view_is c.take_by_turns.ensures.turned

pub returns-in-Ok-clause-scenario : goal.returns-in-Ok-clause-scenario
returns-in-Ok-clause-scenario g c =
    keys_stay c.args.pass.now c.take_by_turns.new.pass c.requires.turns.played c.take_by_turns.ensures.turned.turned.seen

pub returns-in-Ok-clause-stands : goal.returns-in-Ok-clause-stands
returns-in-Ok-clause-stands g c =
    let p = c.args.pass.now in
    let q = c.take_by_turns.new.pass in
    let sc = scenario_seen p in
    let more = history_seen q in
    let new = c.take_by_turns.new.state in
    node_with g.D.Disk.meaning sc (scenario_seen q) (history_seen p) more c.args.self.now _ new c.requires.turns.stands
    (keys_stay p q c.requires.turns.played c.take_by_turns.ensures.turned.turned.seen).0
    (subst (λ (x : NodeView _). IsIn g.D.Disk.meaning sc more x.site new) c.self.view_is c.in-Ok.ensures.ended.stands)
    (ap (λ (x : NodeView _). let n : NodeView _ = record { site = x.site; weights = x.weights; rows = x.rows; state = new } in n) c.self.view_is)

pub returns-in-Ok-clause-stepped : goal.returns-in-Ok-clause-stepped
returns-in-Ok-clause-stepped g c =
    let sc = scenario_seen c.args.pass.now in
    let h = history_seen c.args.pass.now in
    let more = history_seen c.take_by_turns.new.pass in
    let ended = c.in-Ok.ensures.ended in (
      ended.now,
      subst (λ (x : NodeView _). Meanwhile x.site h ended.now) c.self.view_is ended.meanwhile,
      subst (λ (x : NodeView _). more ≡ ended.now ++ entry_of sc ended.now x.site c.args.input ∷ []) c.self.view_is ended.entered,
    )

pub returns-in-Err-clause-turned : goal.returns-in-Err-clause-turned
returns-in-Err-clause-turned g c =
    subst (λ (x : NodeView _). HasKeptPromises c.args.wire.now x.site c.args.pass.now c.take_by_turns.new.pass) c.self.view_is c.take_by_turns.ensures.turned

pub returns-in-Err-clause-scenario : goal.returns-in-Err-clause-scenario
returns-in-Err-clause-scenario g c =
    keys_stay c.args.pass.now c.take_by_turns.new.pass c.requires.turns.played c.take_by_turns.ensures.turned.turned.seen

pub returns-in-Err-clause-stands : goal.returns-in-Err-clause-stands
returns-in-Err-clause-stands g c =
    let p = c.args.pass.now in
    let q = c.take_by_turns.new.pass in
    let sc = scenario_seen p in
    let h = history_seen p in
    let more = history_seen q in
    let told = in_told g.D.Disk.meaning sc h more c.self.inside.site c.args.input c.self.inside.state c.take_by_turns.new.state
    c.in-Err.fault c.settle.new.state c.in-Err.ensures.ended c.settle.ensures.fell c.settle.ensures.kept in
    node_with g.D.Disk.meaning sc (scenario_seen q) h more c.args.self.now _ c.settle.new.state c.requires.turns.stands
    (keys_stay p q c.requires.turns.played c.take_by_turns.ensures.turned.turned.seen).0
    (subst (λ (x : NodeView _). IsIn g.D.Disk.meaning sc more x.site c.settle.new.state) c.self.view_is told)
    (ap (λ (x : NodeView _). let n : NodeView _ = record { site = x.site; weights = x.weights; rows = x.rows; state = c.settle.new.state } in n) c.self.view_is)

pub returns-in-Ok-clause-none_back : goal.returns-in-Ok-clause-none_back
returns-in-Ok-clause-none_back g c =
    subst (λ (x : NodeView _). HasGivenNoneBack x.site (seen_by c.args.pass.now) (seen_by c.take_by_turns.new.pass)) c.self.view_is c.take_by_turns.ensures.none_back

pub returns-in-Ok-clause-fell : goal.returns-in-Ok-clause-fell
returns-in-Ok-clause-fell g c = λ why is. absurd cc

pub returns-in-Ok-clause-down : goal.returns-in-Ok-clause-down
returns-in-Ok-clause-down g c = down_shown _ _ c.self.view_is (history_seen c.args.pass.now) c.in-Ok.ensures.down

pub returns-in-Ok-clause-full : goal.returns-in-Ok-clause-full
returns-in-Ok-clause-full g c = λ is. absurd cc

pub returns-in-Ok-clause-kept : goal.returns-in-Ok-clause-kept
returns-in-Ok-clause-kept g c = λ fault is none. absurd cc

pub returns-in-Ok-clause-why : goal.returns-in-Ok-clause-why
returns-in-Ok-clause-why g c = λ why is. absurd cc

pub returns-in-Ok-clause-room : goal.returns-in-Ok-clause-room
returns-in-Ok-clause-room g c = λ why is fits. absurd cc

pub returns-in-Ok-clause-meters : goal.returns-in-Ok-clause-meters
returns-in-Ok-clause-meters g c = keeps_shown _ _ c.self.view_is g.D.Disk.meaning.meters c.take_by_turns.new.state c.take_by_turns.new.state refl c.take_by_turns.ensures.keeps

pub returns-in-Err-clause-none_back : goal.returns-in-Err-clause-none_back
returns-in-Err-clause-none_back g c =
    subst (λ (x : NodeView _). HasGivenNoneBack x.site (seen_by c.args.pass.now) (seen_by c.take_by_turns.new.pass)) c.self.view_is c.take_by_turns.ensures.none_back

pub returns-in-Err-clause-fell : goal.returns-in-Err-clause-fell
returns-in-Err-clause-fell g c = λ why is.
    let sc = scenario_seen c.args.pass.now in
    let h = history_seen c.args.pass.now in
    let more = history_seen c.take_by_turns.new.pass in
    let same : c.in-Err.fault ≡ input_fault.Fell why = cc in
    subst (λ (x : NodeView _). (now : List Entry) × Meanwhile x.site h now × FellOver sc now x.site c.args.input why more) c.self.view_is
    (fell_told g.D.Disk.meaning sc h more c.self.inside.site c.args.input c.self.inside.state c.take_by_turns.new.state c.in-Err.fault c.in-Err.ensures.ended why same)

pub returns-in-Err-clause-down : goal.returns-in-Err-clause-down
returns-in-Err-clause-down g c = down_shown _ _ c.self.view_is (history_seen c.args.pass.now) c.in-Err.ensures.down

pub returns-in-Err-clause-full : goal.returns-in-Err-clause-full
returns-in-Err-clause-full g c = c.in-Err.ensures.full

pub returns-in-Err-clause-kept : goal.returns-in-Err-clause-kept
returns-in-Err-clause-kept g c = λ fault is none.
    let sc = scenario_seen c.args.pass.now in
    let h = history_seen c.args.pass.now in
    let more = history_seen c.take_by_turns.new.pass in
    let same = disk_told g.D.Disk.meaning sc h more c.self.inside.site c.args.input c.self.inside.state c.take_by_turns.new.state
    c.in-Err.fault c.settle.new.state c.settle.ensures.fell c.settle.ensures.kept in
    let one : c.in-Err.fault ≡ fault = cc in
    let kept = kept_told g.D.Disk.meaning sc h more c.self.inside.site c.args.input c.self.inside.state c.take_by_turns.new.state c.in-Err.fault c.in-Err.ensures.ended (ap is_fall one ∙ none) in (
      subst (λ (x : NodeView _). Meanwhile x.site h more) c.self.view_is kept.0,
      disk_shown _ _ c.self.view_is c.take_by_turns.new.state c.settle.new.state same kept.1,
    )

pub returns-in-Err-clause-why : goal.returns-in-Err-clause-why
returns-in-Err-clause-why g c = λ why is.
    let sc = scenario_seen c.args.pass.now in
    let h = history_seen c.args.pass.now in
    let more = history_seen c.take_by_turns.new.pass in
    let same = disk_told g.D.Disk.meaning sc h more c.self.inside.site c.args.input c.self.inside.state c.take_by_turns.new.state
    c.in-Err.fault c.settle.new.state c.settle.ensures.fell c.settle.ensures.kept in
    reason_shown _ _ c.self.view_is g.D.Disk.meaning.meters c.take_by_turns.new.state c.settle.new.state same sc h c.args.input why (c.in-Err.ensures.why why is)

pub returns-in-Err-clause-meters : goal.returns-in-Err-clause-meters
returns-in-Err-clause-meters g c =
    let sc = scenario_seen c.args.pass.now in
    let h = history_seen c.args.pass.now in
    let more = history_seen c.take_by_turns.new.pass in
    let same = disk_told g.D.Disk.meaning sc h more c.self.inside.site c.args.input c.self.inside.state c.take_by_turns.new.state
    c.in-Err.fault c.settle.new.state c.settle.ensures.fell c.settle.ensures.kept in
    keeps_shown _ _ c.self.view_is g.D.Disk.meaning.meters c.take_by_turns.new.state c.settle.new.state same c.take_by_turns.ensures.keeps
