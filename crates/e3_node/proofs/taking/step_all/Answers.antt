use Rattle.std.proofs.Common.{◌≡◌, ◌≢◌, ◌≤◌, ◌+◌, ◌++◌, ◌∷◌, [], ℕ, true, List, length, take, refl, sym, subst, ap, ◌∙◌, arith}
use Rattle.e3_laws.specs.local.Others.{numbered_on}
use Rattle.e3_site.specs.StandsAlike.{IsLogInOrder}
use Rattle.e3_node.specs.Batched.{HasPlanned}
use Rattle.e3_node.specs.Batches.{stepped}
use Rattle.e3_node.specs.Bodies.{entries_at}
use Rattle.e3_node.specs.Briefing.{BriefsAreTold}
use Rattle.e3_node.specs.Several.{AreOf, marks_in}
use Rattle.e3_node.specs.Turns.{history_seen, scenario_seen}
use Rattle.e3_node.specs.site_log.Bodies.{IsLogged, ReadsLeft}
use Rattle.e3_node.specs.site_log.Ends.{IsBehind, IsPut, HasRoom, HasRoomUnlessShort, IsReason, Takes, calls_for, size_of}
use Rattle.e3_turn.specs.Passes.{GrewByOthers, Owns, seen_by}
use Rattle.e3_types.specs.Spelling.{spelling}
use Rattle.e3_types.specs.declared.entries.Act.TheVariants.{Fall}
use Rattle.e3_types.specs.declared.entries.Entry.{Entry}
use Rattle.e3_types.specs.declared.entries.Input.{Input}
use Rattle.e3_types.specs.declared.records.Record.{Record}
use Rattle.e3_wire.specs.Marks.{belongs, entries_of, scenario_of}
use Rattle.e3_wire.specs.Wires.{IsPlayed, MayEnterBehind}
use Rattle.e3_wire.specs.declared.marks.Mark.{Mark}
use Rattle.e3_wire.specs.declared.marks.Mark.TheVariants as mark
use Rattle.e3_world.specs.Items.{is_up_at}
use Rattle.e3_world.specs.Moves.{log_of}
use Rattle.e3_node.proofs.Bundles.{unnumbered_own}
use Rattle.e3_node.proofs.Ended.{never_down}
use Rattle.e3_node.proofs.BatchOrders.{batch_brief, batch_order}
use Rattle.e3_node.proofs.Counts.{may_turn, promised_entry}
use Rattle.e3_node.proofs.Results.{all_due, all_follow, alone, body_size, fall_end, fall_may, frame_seen, made, may_all_enter, note_fallen, note_stepped, steps_are, steps_end, turned, up_2, up_first, up_second}
use Rattle.e3_node.proofs.Waiting.{still_owns}
use Rattle.e3_node.proofs.Written.{Follows}
use Rattle.e3_node.proofs.taking.step_all.Goals as goal

pub plan_all-planned-requires-clause-stands : goal.plan_all-planned-requires-clause-stands
plan_all-planned-requires-clause-stands g c = c.requires.up.stands.alike

pub plan_all-planned-requires-clause-orders : goal.plan_all-planned-requires-clause-orders
plan_all-planned-requires-clause-orders g c =
    let p = c.args.pass.now in
    let n = c.args.number in
    let Q : List Input → Type 0 = λ l. (marks : List Mark) → GrewByOthers belongs p marks → IsPlayed marks → (k : ℕ) → k ≤ length l →
    IsLogInOrder n (log_of (scenario_of marks) (stepped (scenario_of marks) (entries_of marks) n (take k l)) n) in
    subst Q (sym c.as_slice.ensures) (λ marks grew played k few.
    batch_order p n c.args.inputs c.requires.turns.owns c.requires.turns.played c.requires.turns.some c.requires.up.up
    c.requires.turns.restless c.requires.due c.requires.takes marks grew played k
    c.logs_are_sound.ensures.orderly c.logs_are_sound.ensures.sets)

pub plan_all-planned-requires-clause-briefs : goal.plan_all-planned-requires-clause-briefs
plan_all-planned-requires-clause-briefs g c =
    let p = c.args.pass.now in
    let n = c.args.number in
    let Q : List Input → Type 0 = λ l. (marks : List Mark) → GrewByOthers belongs p marks → IsPlayed marks → (k : ℕ) → k ≤ length l →
    BriefsAreTold (scenario_of marks) (stepped (scenario_of marks) (entries_of marks) n (take k l)) n c.args.rose.now in
    subst Q (sym c.as_slice.ensures) (λ marks grew played k few.
    batch_brief p n c.args.inputs c.requires.turns.owns c.requires.turns.played c.requires.turns.some c.requires.up.up
    c.requires.turns.restless c.requires.due c.requires.takes marks grew played k
    c.logs_are_sound.ensures.orderly c.logs_are_sound.ensures.sets c.logs_are_sound.ensures.sound
    c.logs_are_sound.ensures.mention c.logs_are_sound.ensures.begun
    c.logs_are_sound.ensures.votes c.args.rose.now c.requires.up.stands.risen)

pub plan_all-planned-requires-clause-sound : goal.plan_all-planned-requires-clause-sound
plan_all-planned-requires-clause-sound g c = c.requires.up.logged.stands.sound

pub write-requires-clause-lit : goal.write-requires-clause-lit
write-requires-clause-lit g c = c.requires.up.lit

pub write-requires-clause-may : goal.write-requires-clause-may
write-requires-clause-may g c =
    let p = c.args.pass.now in
    let h = history_seen p in
    let any = c.requires.any in
    let places = c.requires.places in
    may_turn g.D.Disk.meaning h c.args.number (log_of (scenario_seen p) h c.args.number) c.args.logged.now c.args.log.now c.plan_all-planned.new.batch.short c.requires.up.logged
    (promised_entry (seen_by p) c.args.number c.requires.turns.played c.requires.turns.exists (omega (arith, any, places))) c.plan_all-planned.ensures.planned.made.body

pub write-requires-clause-spelled : goal.write-requires-clause-spelled
write-requires-clause-spelled g c =
    let p = c.args.pass.now in
    let q = c.plan_all-planned.new.pass in
    let n = c.args.number in
    let s0 = c.args.site.now in
    let b = c.plan_all-planned.new.batch in
    let s1 = c.plan_all-planned.new.site in
    let answer = c.plan_all-planned.result in
    let plan : HasPlanned g.D.Disk.meaning.meters c.args.log.now p n c.args.rose.now s0.inputs c.args.inputs answer b s1 (seen_by q) =
    subst (λ (l : List Input). HasPlanned g.D.Disk.meaning.meters c.args.log.now p n c.args.rose.now s0.inputs l answer b s1 (seen_by q)) c.as_slice.ensures c.plan_all-planned.ensures.planned in
    let mine = still_owns p q n c.plan_all-planned.ensures.same c.requires.turns.owns in
    let is = made g.D.Disk.meaning.meters c.args.log.now p q n s0.inputs c.args.inputs answer b s1 plan c.requires.turns.owns mine c.requires.turns.played
    c.plan_all-planned.ensures.played in
    c.as_slice-3.ensures ∙ is.body_is ∙ ap spelling (sym is.records_are) ∙ ap spelling (sym c.as_slice-2.ensures)

pub enter_steps-requires-clause-owned : goal.enter_steps-requires-clause-owned
enter_steps-requires-clause-owned g c =
    let p = c.args.pass.now in
    let q = c.plan_all-planned.new.pass in
    let n = c.args.number in
    let s0 = c.args.site.now in
    let l0 = c.args.log.now in
    let l1 = c.write.new.log in
    let b = c.plan_all-planned.new.batch in
    let s1 = c.plan_all-planned.new.site in
    let answer = c.plan_all-planned.result in
    let plan : HasPlanned g.D.Disk.meaning.meters c.args.log.now p n c.args.rose.now s0.inputs c.args.inputs answer b s1 (seen_by q) =
    subst (λ (l : List Input). HasPlanned g.D.Disk.meaning.meters c.args.log.now p n c.args.rose.now s0.inputs l answer b s1 (seen_by q)) c.as_slice.ensures c.plan_all-planned.ensures.planned in
    let mine = still_owns p q n c.plan_all-planned.ensures.same c.requires.turns.owns in
    let is = made g.D.Disk.meaning.meters c.args.log.now p q n s0.inputs c.args.inputs answer b s1 plan c.requires.turns.owns mine c.requires.turns.played
    c.plan_all-planned.ensures.played in
    record {
      site = n;
      some = c.requires.turns.some;
      owns = mine;
      are = subst (λ (l : List Entry). AreOf n l) (sym is.steps_are) (unnumbered_own (scenario_of (seen_by p)) (entries_of plan.between) n (take plan.count c.args.inputs));
    }

pub enter_steps-requires-clause-may : goal.enter_steps-requires-clause-may
enter_steps-requires-clause-may g c =
    let p = c.args.pass.now in
    let q = c.plan_all-planned.new.pass in
    let n = c.args.number in
    let s0 = c.args.site.now in
    let l0 = c.args.log.now in
    let l1 = c.write.new.log in
    let b = c.plan_all-planned.new.batch in
    let s1 = c.plan_all-planned.new.site in
    let answer = c.plan_all-planned.result in
    let plan : HasPlanned g.D.Disk.meaning.meters c.args.log.now p n c.args.rose.now s0.inputs c.args.inputs answer b s1 (seen_by q) =
    subst (λ (l : List Input). HasPlanned g.D.Disk.meaning.meters c.args.log.now p n c.args.rose.now s0.inputs l answer b s1 (seen_by q)) c.as_slice.ensures c.plan_all-planned.ensures.planned in
    let mine = still_owns p q n c.plan_all-planned.ensures.same c.requires.turns.owns in
    λ marks grew played.
    may_all_enter g.D.Disk.meaning.meters c.args.log.now p q n s0.inputs c.args.inputs answer b s1 plan c.requires.turns.owns mine c.requires.turns.played
    c.plan_all-planned.ensures.played c.requires.turns.some c.requires.up.up c.requires.turns.restless c.requires.due c.requires.takes
    marks grew played c.requires.turns.exists (up_second g.D.Disk.meaning.meters c.args.log.now p q n s0.inputs c.args.inputs answer b s1
    plan c.requires.turns.owns mine c.requires.turns.played c.plan_all-planned.ensures.played c.requires.turns.some c.requires.up.up
    c.requires.turns.restless c.requires.due c.requires.takes marks grew played g.D.Disk.meaning s0 l0 c.args.logged.now c.requires.up)

pub commit_entry-requires-clause-owns : goal.commit_entry-requires-clause-owns
commit_entry-requires-clause-owns g c =
    let p = c.args.pass.now in
    let q = c.plan_all-planned.new.pass in
    let n = c.args.number in
    let s0 = c.args.site.now in
    let l0 = c.args.log.now in
    let l1 = c.write.new.log in
    let b = c.plan_all-planned.new.batch in
    let s1 = c.plan_all-planned.new.site in
    let answer = c.plan_all-planned.result in
    let plan : HasPlanned g.D.Disk.meaning.meters c.args.log.now p n c.args.rose.now s0.inputs c.args.inputs answer b s1 (seen_by q) =
    subst (λ (l : List Input). HasPlanned g.D.Disk.meaning.meters c.args.log.now p n c.args.rose.now s0.inputs l answer b s1 (seen_by q)) c.as_slice.ensures c.plan_all-planned.ensures.planned in
    let mine = still_owns p q n c.plan_all-planned.ensures.same c.requires.turns.owns in
    subst (λ (y : Entry). Owns q y.owner) (sym c.fall_of-fall.ensures) mine

pub commit_entry-requires-clause-may : goal.commit_entry-requires-clause-may
commit_entry-requires-clause-may g c =
    let p = c.args.pass.now in
    let q = c.plan_all-planned.new.pass in
    let n = c.args.number in
    let s0 = c.args.site.now in
    let l0 = c.args.log.now in
    let l1 = c.write.new.log in
    let b = c.plan_all-planned.new.batch in
    let s1 = c.plan_all-planned.new.site in
    let answer = c.plan_all-planned.result in
    let plan : HasPlanned g.D.Disk.meaning.meters c.args.log.now p n c.args.rose.now s0.inputs c.args.inputs answer b s1 (seen_by q) =
    subst (λ (l : List Input). HasPlanned g.D.Disk.meaning.meters c.args.log.now p n c.args.rose.now s0.inputs l answer b s1 (seen_by q)) c.as_slice.ensures c.plan_all-planned.ensures.planned in
    let mine = still_owns p q n c.plan_all-planned.ensures.same c.requires.turns.owns in
    subst (λ (y : Entry). MayEnterBehind (seen_by q) y) (sym c.fall_of-fall.ensures)
    (fall_may g.D.Disk.meaning.meters c.args.log.now p q n s0.inputs c.args.inputs answer b s1 plan c.requires.turns.owns mine c.requires.turns.played
    c.plan_all-planned.ensures.played c.requires.turns.some c.requires.up.up c.requires.turns.restless c.requires.due c.requires.takes
    c.first_of-over.result c.in-Err.why (c.first_of-over.ensures ∙ ap (λ (k : ℕ). take k c.args.inputs)
    (ap length c.as_slice-in-Err.ensures.value ∙ steps_are g.D.Disk.meaning.meters c.args.log.now p q n s0.inputs c.args.inputs answer b s1
    plan c.requires.turns.owns mine c.requires.turns.played c.plan_all-planned.ensures.played))
    (λ none. c.in-Err.ensures.some (c.as_slice-2.ensures ∙ none)) (up_first g.D.Disk.meaning.meters c.args.log.now p q n s0.inputs c.args.inputs answer b s1
    plan c.requires.turns.owns mine c.requires.turns.played c.plan_all-planned.ensures.played
    g.D.Disk.meaning s0 l0 c.args.logged.now c.requires.up) c.requires.turns.exists)

pub commit_entry-requires-clause-alone : goal.commit_entry-requires-clause-alone
commit_entry-requires-clause-alone g c =
    let p = c.args.pass.now in
    let q = c.plan_all-planned.new.pass in
    let n = c.args.number in
    let s0 = c.args.site.now in
    let l0 = c.args.log.now in
    let l1 = c.write.new.log in
    let b = c.plan_all-planned.new.batch in
    let s1 = c.plan_all-planned.new.site in
    let answer = c.plan_all-planned.result in
    let plan : HasPlanned g.D.Disk.meaning.meters c.args.log.now p n c.args.rose.now s0.inputs c.args.inputs answer b s1 (seen_by q) =
    subst (λ (l : List Input). HasPlanned g.D.Disk.meaning.meters c.args.log.now p n c.args.rose.now s0.inputs l answer b s1 (seen_by q)) c.as_slice.ensures c.plan_all-planned.ensures.planned in
    let mine = still_owns p q n c.plan_all-planned.ensures.same c.requires.turns.owns in
    λ calm.
    alone g.D.Disk.meaning.meters c.args.log.now p q n s0.inputs c.args.inputs answer b s1 plan c.requires.turns.owns mine c.requires.turns.played c.plan_all-planned.ensures.played
    c.requires.turns.some c.requires.up.up c.requires.turns.restless c.requires.due c.requires.takes calm

pub returns-in-Ok-clause-turned : goal.returns-in-Ok-clause-turned
returns-in-Ok-clause-turned g c =
    let p = c.args.pass.now in
    let q = c.plan_all-planned.new.pass in
    let n = c.args.number in
    let s0 = c.args.site.now in
    let l0 = c.args.log.now in
    let l1 = c.write.new.log in
    let b = c.plan_all-planned.new.batch in
    let s1 = c.plan_all-planned.new.site in
    let answer = c.plan_all-planned.result in
    let plan : HasPlanned g.D.Disk.meaning.meters c.args.log.now p n c.args.rose.now s0.inputs c.args.inputs answer b s1 (seen_by q) =
    subst (λ (l : List Input). HasPlanned g.D.Disk.meaning.meters c.args.log.now p n c.args.rose.now s0.inputs l answer b s1 (seen_by q)) c.as_slice.ensures c.plan_all-planned.ensures.planned in
    let mine = still_owns p q n c.plan_all-planned.ensures.same c.requires.turns.owns in
    let r = c.enter_steps.new.pass in
    let ent = c.enter_steps.ensures.entered in
    let tail = marks_in (entries_of ent.0) b.steps.items in
    turned g.D.Disk.meaning.meters c.args.log.now p q n s0.inputs c.args.inputs answer b s1 plan c.requires.turns.owns mine c.requires.turns.played
    c.plan_all-planned.ensures.played c.requires.turns.some c.requires.up.up c.requires.turns.restless c.requires.due c.requires.takes ent.0 ent.1 ent.2
    c.args.wire.now r tail ent.3 c.enter_steps.ensures.idle c.plan_all-planned.ensures.same c.enter_steps.ensures.same c.enter_steps.ensures.played

pub returns-in-Ok-clause-none : goal.returns-in-Ok-clause-none
returns-in-Ok-clause-none g c =
    let p = c.args.pass.now in
    let q = c.plan_all-planned.new.pass in
    let n = c.args.number in
    let s0 = c.args.site.now in
    let l0 = c.args.log.now in
    let l1 = c.write.new.log in
    let b = c.plan_all-planned.new.batch in
    let s1 = c.plan_all-planned.new.site in
    let answer = c.plan_all-planned.result in
    let plan : HasPlanned g.D.Disk.meaning.meters c.args.log.now p n c.args.rose.now s0.inputs c.args.inputs answer b s1 (seen_by q) =
    subst (λ (l : List Input). HasPlanned g.D.Disk.meaning.meters c.args.log.now p n c.args.rose.now s0.inputs l answer b s1 (seen_by q)) c.as_slice.ensures c.plan_all-planned.ensures.planned in
    let mine = still_owns p q n c.plan_all-planned.ensures.same c.requires.turns.owns in
    let r = c.enter_steps.new.pass in
    let ent = c.enter_steps.ensures.entered in
    let tail = marks_in (entries_of ent.0) b.steps.items in
    note_stepped g.D.Disk.meaning.meters c.args.log.now p q n s0.inputs c.args.inputs answer b s1 plan c.requires.turns.owns mine c.requires.turns.played
    c.plan_all-planned.ensures.played c.requires.turns.some c.requires.up.up c.requires.turns.restless c.requires.due c.requires.takes ent.0 ent.1 ent.2 (seen_by r) ent.3

pub returns-in-Ok-clause-ended : goal.returns-in-Ok-clause-ended
returns-in-Ok-clause-ended g c =
    let p = c.args.pass.now in
    let q = c.plan_all-planned.new.pass in
    let n = c.args.number in
    let s0 = c.args.site.now in
    let l0 = c.args.log.now in
    let l1 = c.write.new.log in
    let b = c.plan_all-planned.new.batch in
    let s1 = c.plan_all-planned.new.site in
    let answer = c.plan_all-planned.result in
    let plan : HasPlanned g.D.Disk.meaning.meters l0 p n c.args.rose.now s0.inputs c.args.inputs answer b s1 (seen_by q) =
    subst (λ (l : List Input). HasPlanned g.D.Disk.meaning.meters l0 p n c.args.rose.now s0.inputs l answer b s1 (seen_by q)) c.as_slice.ensures c.plan_all-planned.ensures.planned in
    let mine = still_owns p q n c.plan_all-planned.ensures.same c.requires.turns.owns in
    let r = c.enter_steps.new.pass in
    let ent = c.enter_steps.ensures.entered in
    let sc = scenario_of (seen_by p) in
    let k = entries_of ent.0 in
    let m = c.write.new.logged in
    let up_k : is_up_at k n ≡ true =
    up_second g.D.Disk.meaning.meters l0 p q n s0.inputs c.args.inputs answer b s1 plan c.requires.turns.owns mine c.requires.turns.played c.plan_all-planned.ensures.played
    c.requires.turns.some c.requires.up.up c.requires.turns.restless c.requires.due c.requires.takes ent.0 ent.1 ent.2
    g.D.Disk.meaning s0 l0 c.args.logged.now c.requires.up in
    let up_1 : is_up_at (entries_of plan.between) n ≡ true = up_first g.D.Disk.meaning.meters l0 p q n s0.inputs c.args.inputs answer b s1
    plan c.requires.turns.owns mine c.requires.turns.played c.plan_all-planned.ensures.played
    g.D.Disk.meaning s0 l0 c.args.logged.now c.requires.up in
    let here = up_2 g.D.Disk.meaning.meters l0 p q n s0.inputs c.args.inputs answer b s1 plan c.requires.turns.owns mine c.requires.turns.played c.plan_all-planned.ensures.played
    c.requires.turns.some c.requires.up.up c.requires.turns.restless c.requires.due c.requires.takes ent.0 ent.1 ent.2
    g.D.Disk.meaning s0 l0 l1 c.args.logged.now m c.requires.up refl in
    let follow : Follows n (log_of sc k n) c.as_slice-2.result.now b.short =
    subst (λ (rs : List Record). Follows n (log_of sc k n) rs b.short) (sym c.as_slice-2.ensures)
    (all_follow g.D.Disk.meaning.meters l0 p q n s0.inputs c.args.inputs answer b s1 plan c.requires.turns.owns mine c.requires.turns.played c.plan_all-planned.ensures.played
    c.requires.turns.some c.requires.up.up c.requires.turns.restless c.requires.due c.requires.takes ent.0 ent.1 ent.2
    c.logs_are_sound.ensures.orderly c.logs_are_sound.ensures.sets c.logs_are_sound.ensures.mention c.logs_are_sound.ensures.begun
    c.logs_are_sound.ensures.votes up_1 up_k) in
    steps_end g.D.Disk.meaning.meters l0 p q n s0.inputs c.args.inputs answer b s1 plan c.requires.turns.owns mine c.requires.turns.played c.plan_all-planned.ensures.played
    c.requires.turns.some c.requires.up.up c.requires.turns.restless c.requires.due c.requires.takes ent.0 ent.1 ent.2
    g.D.Disk.meaning s0 l0 l1 c.args.logged.now m c.requires.up refl
    (frame_seen g.D.Disk.meaning.meters l0 p q n s0.inputs c.args.inputs answer b s1 plan c.requires.turns.owns mine c.requires.turns.played c.plan_all-planned.ensures.played)
    c.logs_are_sound.ensures.orderly c.logs_are_sound.ensures.sets b.short follow.short
    (λ none. c.write.ensures.same (c.as_slice-2.ensures ∙ none))
    (subst (λ (rs : List Record). IsLogged g.D.Disk.meaning n (entries_at k n + 1) (log_of sc k n ++ rs) m l1) c.as_slice-2.ensures
    (c.in-Ok.ensures.logged n (entries_at k n) (log_of sc k n) here.logged follow.short follow.orderly follow.back))
    c.in-Ok.ensures.lit
    (subst (λ (rs : List Record). Takes (calls_for rs) (g.D.Disk.meaning.meters l0.disk) (g.D.Disk.meaning.meters l1.disk)) c.as_slice-2.ensures c.in-Ok.ensures.takes)
    c.write.ensures.keeps
    (subst (λ (rs : List Record). rs ≢ [] → IsPut g.D.Disk.meaning.meters l0 b.short rs l1) c.as_slice-2.ensures c.in-Ok.ensures.end)
    (λ fits. subst (λ (rs : List Record). rs ≢ [] → IsBehind l0 rs l1) c.as_slice-2.ensures
    (c.in-Ok.ensures.stays c.requires.up.logged.stands.sound (subst (λ (size : ℕ). HasRoom g.D.Disk.meaning.meters l0 size)
    (sym (ap length c.as_slice-3.ensures ∙ body_size g.D.Disk.meaning.meters l0 p q n s0.inputs c.args.inputs answer b s1 plan c.requires.turns.owns mine c.requires.turns.played
    c.plan_all-planned.ensures.played)) fits)))
    (seen_by r) ent.3

pub returns-in-Ok-clause-never : goal.returns-in-Ok-clause-never
returns-in-Ok-clause-never g c =
    never_down c.plan_all-planned.result c.plan_all-planned.ensures.refused

pub returns-in-Err-clause-turned : goal.returns-in-Err-clause-turned
returns-in-Err-clause-turned g c =
    let p = c.args.pass.now in
    let q = c.plan_all-planned.new.pass in
    let n = c.args.number in
    let s0 = c.args.site.now in
    let l0 = c.args.log.now in
    let l1 = c.write.new.log in
    let b = c.plan_all-planned.new.batch in
    let s1 = c.plan_all-planned.new.site in
    let answer = c.plan_all-planned.result in
    let plan : HasPlanned g.D.Disk.meaning.meters c.args.log.now p n c.args.rose.now s0.inputs c.args.inputs answer b s1 (seen_by q) =
    subst (λ (l : List Input). HasPlanned g.D.Disk.meaning.meters c.args.log.now p n c.args.rose.now s0.inputs l answer b s1 (seen_by q)) c.as_slice.ensures c.plan_all-planned.ensures.planned in
    let mine = still_owns p q n c.plan_all-planned.ensures.same c.requires.turns.owns in
    let r = c.commit_entry.new.pass in
    let over = c.first_of-over.result in
    let why = c.in-Err.why in
    let e : Entry = record { owner = n; act = Fall over b.records why } in
    let P : Entry → Type 0 = λ y. (later : List Mark) × GrewByOthers belongs q later
    × (seen_by r ≡ later ++ mark.Entered (numbered_on (entries_of later) y) ∷ []) × IsPlayed later in
    let ent : P e = subst P c.fall_of-fall.ensures c.commit_entry.ensures.entered in
    let tail : List Mark = mark.Entered (numbered_on (entries_of ent.0) e) ∷ [] in
    turned g.D.Disk.meaning.meters c.args.log.now p q n s0.inputs c.args.inputs answer b s1 plan c.requires.turns.owns mine c.requires.turns.played
    c.plan_all-planned.ensures.played c.requires.turns.some c.requires.up.up c.requires.turns.restless c.requires.due c.requires.takes ent.0 ent.1 ent.3
    c.args.wire.now r tail ent.2 c.commit_entry.ensures.idle c.plan_all-planned.ensures.same c.commit_entry.ensures.same c.commit_entry.ensures.played

pub returns-in-Err-clause-none : goal.returns-in-Err-clause-none
returns-in-Err-clause-none g c =
    let p = c.args.pass.now in
    let q = c.plan_all-planned.new.pass in
    let n = c.args.number in
    let s0 = c.args.site.now in
    let l0 = c.args.log.now in
    let l1 = c.write.new.log in
    let b = c.plan_all-planned.new.batch in
    let s1 = c.plan_all-planned.new.site in
    let answer = c.plan_all-planned.result in
    let plan : HasPlanned g.D.Disk.meaning.meters c.args.log.now p n c.args.rose.now s0.inputs c.args.inputs answer b s1 (seen_by q) =
    subst (λ (l : List Input). HasPlanned g.D.Disk.meaning.meters c.args.log.now p n c.args.rose.now s0.inputs l answer b s1 (seen_by q)) c.as_slice.ensures c.plan_all-planned.ensures.planned in
    let mine = still_owns p q n c.plan_all-planned.ensures.same c.requires.turns.owns in
    let r = c.commit_entry.new.pass in
    let over = c.first_of-over.result in
    let why = c.in-Err.why in
    let e : Entry = record { owner = n; act = Fall over b.records why } in
    let P : Entry → Type 0 = λ y. (later : List Mark) × GrewByOthers belongs q later
    × (seen_by r ≡ later ++ mark.Entered (numbered_on (entries_of later) y) ∷ []) × IsPlayed later in
    let ent : P e = subst P c.fall_of-fall.ensures c.commit_entry.ensures.entered in
    let tail : List Mark = mark.Entered (numbered_on (entries_of ent.0) e) ∷ [] in
    note_fallen g.D.Disk.meaning.meters c.args.log.now p q n s0.inputs c.args.inputs answer b s1 plan c.requires.turns.owns mine c.requires.turns.played
    c.plan_all-planned.ensures.played c.requires.turns.some c.requires.up.up c.requires.turns.restless c.requires.due c.requires.takes ent.0 ent.1 ent.3 over why (seen_by r)
    (c.first_of-over.ensures ∙ ap (λ (k : ℕ). take k c.args.inputs)
    (ap length c.as_slice-in-Err.ensures.value ∙ steps_are g.D.Disk.meaning.meters c.args.log.now p q n s0.inputs c.args.inputs answer b s1
    plan c.requires.turns.owns mine c.requires.turns.played c.plan_all-planned.ensures.played)) ent.2

pub returns-in-Err-clause-ended : goal.returns-in-Err-clause-ended
returns-in-Err-clause-ended g c =
    let p = c.args.pass.now in
    let q = c.plan_all-planned.new.pass in
    let n = c.args.number in
    let s0 = c.args.site.now in
    let l0 = c.args.log.now in
    let l1 = c.write.new.log in
    let b = c.plan_all-planned.new.batch in
    let s1 = c.plan_all-planned.new.site in
    let answer = c.plan_all-planned.result in
    let plan : HasPlanned g.D.Disk.meaning.meters l0 p n c.args.rose.now s0.inputs c.args.inputs answer b s1 (seen_by q) =
    subst (λ (l : List Input). HasPlanned g.D.Disk.meaning.meters l0 p n c.args.rose.now s0.inputs l answer b s1 (seen_by q)) c.as_slice.ensures c.plan_all-planned.ensures.planned in
    let mine = still_owns p q n c.plan_all-planned.ensures.same c.requires.turns.owns in
    let r = c.commit_entry.new.pass in
    let over = c.first_of-over.result in
    let why = c.in-Err.why in
    let e : Entry = record { owner = n; act = Fall over b.records why } in
    let P : Entry → Type 0 = λ y. (later : List Mark) × GrewByOthers belongs q later
    × (seen_by r ≡ later ++ mark.Entered (numbered_on (entries_of later) y) ∷ []) × IsPlayed later in
    let ent : P e = subst P c.fall_of-fall.ensures c.commit_entry.ensures.entered in
    let sc = scenario_of (seen_by p) in
    let k = entries_of ent.0 in
    let m = c.write.new.logged in
    let up_k : is_up_at k n ≡ true =
    up_second g.D.Disk.meaning.meters l0 p q n s0.inputs c.args.inputs answer b s1 plan c.requires.turns.owns mine c.requires.turns.played c.plan_all-planned.ensures.played
    c.requires.turns.some c.requires.up.up c.requires.turns.restless c.requires.due c.requires.takes ent.0 ent.1 ent.3
    g.D.Disk.meaning s0 l0 c.args.logged.now c.requires.up in
    let up_1 : is_up_at (entries_of plan.between) n ≡ true = up_first g.D.Disk.meaning.meters l0 p q n s0.inputs c.args.inputs answer b s1
    plan c.requires.turns.owns mine c.requires.turns.played c.plan_all-planned.ensures.played
    g.D.Disk.meaning s0 l0 c.args.logged.now c.requires.up in
    let here = up_2 g.D.Disk.meaning.meters l0 p q n s0.inputs c.args.inputs answer b s1 plan c.requires.turns.owns mine c.requires.turns.played c.plan_all-planned.ensures.played
    c.requires.turns.some c.requires.up.up c.requires.turns.restless c.requires.due c.requires.takes ent.0 ent.1 ent.3
    g.D.Disk.meaning s0 l0 l1 c.args.logged.now m c.requires.up refl in
    let follow : Follows n (log_of sc k n) c.as_slice-2.result.now b.short =
    subst (λ (rs : List Record). Follows n (log_of sc k n) rs b.short) (sym c.as_slice-2.ensures)
    (all_follow g.D.Disk.meaning.meters l0 p q n s0.inputs c.args.inputs answer b s1 plan c.requires.turns.owns mine c.requires.turns.played c.plan_all-planned.ensures.played
    c.requires.turns.some c.requires.up.up c.requires.turns.restless c.requires.due c.requires.takes ent.0 ent.1 ent.3
    c.logs_are_sound.ensures.orderly c.logs_are_sound.ensures.sets c.logs_are_sound.ensures.mention c.logs_are_sound.ensures.begun
    c.logs_are_sound.ensures.votes up_1 up_k) in
    let some : b.records ≢ [] = λ none. c.in-Err.ensures.some (c.as_slice-2.ensures ∙ none) in
    let due : HasRoomUnlessShort g.D.Disk.meaning.meters l0 (log_of sc k n) b.short (size_of b.records) =
    all_due g.D.Disk.meaning.meters l0 p q n s0.inputs c.args.inputs answer b s1 plan c.requires.turns.owns mine c.requires.turns.played c.plan_all-planned.ensures.played
    c.requires.turns.some c.requires.up.up c.requires.turns.restless c.requires.due c.requires.takes ent.0 ent.1 ent.3 some in
    let size : length c.as_slice-3.result.now ≡ size_of b.records =
    ap length c.as_slice-3.ensures ∙ body_size g.D.Disk.meaning.meters l0 p q n s0.inputs c.args.inputs answer b s1 plan c.requires.turns.owns mine c.requires.turns.played
    c.plan_all-planned.ensures.played in
    fall_end g.D.Disk.meaning.meters l0 p q n s0.inputs c.args.inputs answer b s1 plan c.requires.turns.owns mine c.requires.turns.played c.plan_all-planned.ensures.played
    c.requires.turns.some c.requires.up.up c.requires.turns.restless c.requires.due c.requires.takes ent.0 ent.1 ent.3
    g.D.Disk.meaning s0 l0 l1 c.args.logged.now m c.requires.up refl
    (frame_seen g.D.Disk.meaning.meters l0 p q n s0.inputs c.args.inputs answer b s1 plan c.requires.turns.owns mine c.requires.turns.played c.plan_all-planned.ensures.played) why some
    (λ fits. c.in-Err.ensures.room c.requires.up.logged.stands.sound (subst (λ (size : ℕ). HasRoom g.D.Disk.meaning.meters l0 size) (sym size) fits))
    (subst (λ (rs : List Record). (bytes : List ℕ) → g.D.Disk.meaning.image l1.disk bytes →
    ReadsLeft n (g.D.Disk.meaning.meters l1.disk).capacity (entries_at k n + 1) (log_of sc k n) rs m why bytes) c.as_slice-2.ensures
    (c.in-Err.ensures.left n (entries_at k n) (log_of sc k n) here.logged follow.short follow.orderly follow.back))
    (subst (λ (rs : List Record). IsReason why (log_of sc k n) rs (g.D.Disk.meaning.meters l0.disk) (g.D.Disk.meaning.meters l1.disk)) c.as_slice-2.ensures
    (c.in-Err.ensures.reason n (entries_at k n) (log_of sc k n) here.logged follow.short
    (subst (λ (rs : List Record). HasRoomUnlessShort g.D.Disk.meaning.meters l0 (log_of sc k n) b.short (size_of rs)) (sym c.as_slice-2.ensures) due)))
    c.write.ensures.keeps over
    (c.first_of-over.ensures ∙ ap (λ (j : ℕ). take j c.args.inputs) (ap length c.as_slice-in-Err.ensures.value ∙ steps_are g.D.Disk.meaning.meters l0 p q n s0.inputs
    c.args.inputs answer b s1 plan c.requires.turns.owns mine c.requires.turns.played c.plan_all-planned.ensures.played))
    (seen_by r) ent.2

pub returns-in-Err-clause-never : goal.returns-in-Err-clause-never
returns-in-Err-clause-never g c =
    never_down c.plan_all-planned.result c.plan_all-planned.ensures.refused
