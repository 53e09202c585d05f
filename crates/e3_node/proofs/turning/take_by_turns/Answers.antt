use Rattle.std.proofs.Common.{◌≡◌, ◌∙◌, true, refl, subst, sym}
use Rattle.std.specs.Prelude.{OnOk}
use Rattle.e3_disk.specs.Meters.{Keeps}
use Rattle.e3_node.specs.Ends.{HasRoomBehind, IsOneFrame, OnLogs}
use Rattle.e3_node.specs.NodeStands.{IsDown, IsIn, IsUp}
use Rattle.e3_node.specs.NodeView.{disk_of}
use Rattle.e3_node.specs.Turns.{EndsSo, history_seen, scenario_seen}
use Rattle.e3_turn.specs.Passes.{seen_by}
use Rattle.e3_node.specs.declared.state.State.{State}
use Rattle.e3_node.specs.declared.state.State.TheVariants.{Up}
use Rattle.e3_node.specs.site_log.Ends.{IsReason, Takes, calls_for}
use Rattle.e3_types.specs.declared.entries.Why.TheVariants.{Fault}
use Rattle.e3_world.specs.Items.{is_up_at}
use Rattle.e3_world.specs.Legal.{made_by}
use Rattle.e3_world.specs.Moves.{log_of}
use Rattle.e3_node.proofs.Places.{still_back}
use Rattle.e3_node.proofs.Waiting.{no_while, same_pass}
use Rattle.e3_node.proofs.turning.take_by_turns.Goals as goal

pub returns-in-Down-clause-turned : goal.returns-in-Down-clause-turned
returns-in-Down-clause-turned g c = same_pass c.args.wire.now c.args.pass.now c.args.number c.requires.turns.idle c.requires.turns.played

pub returns-in-Down-clause-none_back : goal.returns-in-Down-clause-none_back
returns-in-Down-clause-none_back g c = still_back c.args.number (seen_by c.args.pass.now)

pub returns-in-Down-clause-ended : goal.returns-in-Down-clause-ended
returns-in-Down-clause-ended g c =
    record { meanwhile = no_while c.args.number (history_seen c.args.pass.now); disk = refl; stands = c.requires.stands }

pub returns-in-Up-clause-why : goal.returns-in-Up-clause-why
returns-in-Up-clause-why g c = λ why is.
    let sc = scenario_seen c.args.pass.now in
    let h = history_seen c.args.pass.now in
    subst (λ (s : State _). IsReason why (log_of sc h c.args.number) (made_by sc h c.args.number c.args.input).records
    (g.D.Disk.meaning.meters (disk_of s)) (g.D.Disk.meaning.meters c.step_by_turns.new.log.disk)) (sym c.in-Up.is) (c.step_by_turns.ensures.why why is)

pub returns-in-Up-clause-room : goal.returns-in-Up-clause-room
returns-in-Up-clause-room g c = λ why is.
    let sc = scenario_seen c.args.pass.now in
    let h = history_seen c.args.pass.now in
    subst (λ (s : State _). HasRoomBehind g.D.Disk.meaning.meters s (made_by sc h c.args.number c.args.input).records → why ≡ Fault) (sym c.in-Up.is) (c.step_by_turns.ensures.room why is)

pub returns-in-Up-clause-ended : goal.returns-in-Up-clause-ended
returns-in-Up-clause-ended g c =
    let sc = scenario_seen c.args.pass.now in
    let h = history_seen c.args.pass.now in
    subst (λ (s : State _). EndsSo g.D.Disk.meaning sc h (history_seen c.step_by_turns.new.pass) c.args.number c.args.input s
    (Up c.step_by_turns.new.site c.step_by_turns.new.log c.in-Up.rose c.step_by_turns.new.logged) c.step_by_turns.result) (sym c.in-Up.is) c.step_by_turns.ensures.ended

pub returns-in-Up-clause-keeps : goal.returns-in-Up-clause-keeps
returns-in-Up-clause-keeps g c =
    subst (λ (s : State _). Keeps (g.D.Disk.meaning.meters (disk_of s)) (g.D.Disk.meaning.meters c.step_by_turns.new.log.disk)) (sym c.in-Up.is) c.step_by_turns.ensures.keeps

pub returns-in-Up-clause-takes : goal.returns-in-Up-clause-takes
returns-in-Up-clause-takes g c =
    let sc = scenario_seen c.args.pass.now in
    let h = history_seen c.args.pass.now in
    subst (λ (s : State _). OnOk c.step_by_turns.result (Takes (calls_for (made_by sc h c.args.number c.args.input).records)
    (g.D.Disk.meaning.meters (disk_of s)) (g.D.Disk.meaning.meters c.step_by_turns.new.log.disk))) (sym c.in-Up.is) c.step_by_turns.ensures.takes

pub returns-in-Up-clause-frame : goal.returns-in-Up-clause-frame
returns-in-Up-clause-frame g c =
    let sc = scenario_seen c.args.pass.now in
    let h = history_seen c.args.pass.now in
    subst (λ (s : State _). OnOk c.step_by_turns.result (OnLogs (IsOneFrame g.D.Disk.meaning.meters (log_of sc h c.args.number) (made_by sc h c.args.number c.args.input).records)
    s (Up c.step_by_turns.new.site c.step_by_turns.new.log c.in-Up.rose c.step_by_turns.new.logged))) (sym c.in-Up.is) c.step_by_turns.ensures.frame

pub returns-in-Up-clause-down : goal.returns-in-Up-clause-down
returns-in-Up-clause-down g c =
    let sc = scenario_seen c.args.pass.now in
    let h = history_seen c.args.pass.now in
    let stands : IsUp g.D.Disk.meaning sc h c.args.number c.in-Up.site c.in-Up.log c.in-Up.rose c.in-Up.logged =
    subst (λ (s : State _). IsIn g.D.Disk.meaning sc h c.args.number s) c.in-Up.is c.requires.stands in
    let up : is_up_at h c.args.number ≡ true = stands.up in
    (λ is. absurd (c.step_by_turns.ensures.never is), λ gone. absurd (let both = sym up ∙ gone in cc))

pub returns-in-Down-clause-down : goal.returns-in-Down-clause-down
returns-in-Down-clause-down g c =
    let sc = scenario_seen c.args.pass.now in
    let h = history_seen c.args.pass.now in
    let stands : IsDown g.D.Disk.meaning sc h c.args.number c.in-Down.field-0 c.in-Down.field-1 =
    subst (λ (s : State _). IsIn g.D.Disk.meaning sc h c.args.number s) c.in-Down.is c.requires.stands in
    (λ is. stands.down, λ gone. refl)
