use Rattle.std.proofs.Common.{◌≡◌, ◌++◌, ◌∷◌, [], ◌∙◌, ℕ, Err, ap, refl, sym, subst, List, length, arith}
use Rattle.e3_laws.specs.local.Others.{numbered_on}
use Rattle.e3_site.specs.StandsAlike.{IsLogInOrder}
use Rattle.e3_node.specs.Bodies.{DiskTells, entries_at}
use Rattle.e3_node.specs.Ends.{IsOneFrame}
use Rattle.e3_node.specs.NodeStands.{IsUp, StandsBy}
use Rattle.e3_node.specs.Turns.{IsStill, history_seen, scenario_seen}
use Rattle.e3_node.specs.declared.fault.InputFault.TheVariants as input_fault
use Rattle.e3_node.specs.declared.state.State.TheVariants.{Up}
use Rattle.e3_site.specs.SiteView.{SiteView, count_on, entry_of_plan, step_kept}
use Rattle.e3_node.specs.site_log.Ends.{HasRoom, HasRoomUnlessShort, IsReason, Takes, calls_for, size_of}
use Rattle.e3_turn.specs.Passes.{GrewByOthers, Owns, seen_by}
use Rattle.e3_types.specs.declared.entries.Act.TheVariants.{Fall}
use Rattle.e3_types.specs.declared.entries.Entry.{Entry}
use Rattle.e3_types.specs.declared.entries.Why.{Why}
use Rattle.e3_types.specs.declared.records.Record.{Record}
use Rattle.e3_types.specs.declared.scenarios.Scenario.{Scenario}
use Rattle.e3_wire.specs.Marks.{belongs, entries_of}
use Rattle.e3_wire.specs.Wires.{IsPlayed, MayEnterBehind}
use Rattle.e3_wire.specs.declared.marks.Mark.{Mark}
use Rattle.e3_wire.specs.declared.marks.Mark.TheVariants as mark
use Rattle.e3_wire.proofs.Claimed.{taken_is_due}
use Rattle.e3_world.specs.Legal.{entry_of, made_by}
use Rattle.e3_world.specs.Moves.{log_of}
use Rattle.e3_world.specs.declared.lives.SiteStep.{SiteStep}
use Rattle.e3_node.proofs.Counts.{claimed_entry, may_turn}
use Rattle.e3_node.proofs.Framing.{one_frame}
use Rattle.e3_node.proofs.Orders.{log_in_order}
use Rattle.e3_node.proofs.Places.{entered_back, still_back}
use Rattle.e3_node.proofs.Sharing.{fall_used, step_used, under}
use Rattle.e3_node.proofs.Steps.{draft_made, fall_allowed, fall_entered, fall_takes, fallen_tells, inputs_on, own_are_few, own_stands, records_made, site_on, step_allowed, step_entered, step_logged, stepped_up}
use Rattle.e3_node.proofs.InputsByTurns.{no_room, refuses}
use Rattle.e3_node.proofs.Waiting.{behind_of, entered_turn, entries, keys_stay, made_meanwhile, may_commit, meanwhile, still_owns, still_restless, still_up, up_meanwhile}
use Rattle.e3_node.proofs.Written.{Follows, follows_while, step_follows, up_brief}
use Rattle.e3_node.proofs.turning.step_by_turns.Goals as goal

pub prepare_by_turns-requires : goal.prepare_by_turns-requires
prepare_by_turns-requires g c =
    let p = c.args.pass.now in
    let played = c.requires.turns.played in
    let within = under (seen_by p) played in
    let few = played.few in (
      own_stands (scenario_seen p) (history_seen p) c.args.number c.args.site.now c.requires.up.stands,
      own_are_few (scenario_seen p) (history_seen p) c.args.number c.args.site.now c.requires.up.stands c.requires.up.up (omega (arith, within, few)),
    )

pub write-requires-clause-may : goal.write-requires-clause-may
write-requires-clause-may g c =
    let p = c.args.pass.now in
    let h = history_seen p in
    let cl = c.in-Ok-claim_place_by_turns.ensures.claimed in
    may_turn g.D.Disk.meaning h c.args.number (log_of (scenario_seen p) h c.args.number) c.args.logged.now c.args.log.now c.in-Ok-claim_place_by_turns.short c.requires.up.logged
    (claimed_entry p c.args.number cl.between c.requires.turns.owns cl.grew cl.played (λ all. cl.left all)) c.in-Ok-claim_place_by_turns.ensures.body

pub commit_entry-requires-clause-owns : goal.commit_entry-requires-clause-owns
commit_entry-requires-clause-owns g c =
    let p = c.args.pass.now in
    let q = c.claim_place_by_turns.new.pass in
    subst (λ (y : Entry). Owns q y.owner) (sym c.step_with-step.ensures.entry) (still_owns p q c.args.number c.in-Ok-claim_place_by_turns.ensures.same c.requires.turns.owns)

pub commit_entry-requires-clause-may : goal.commit_entry-requires-clause-may
commit_entry-requires-clause-may g c =
    let p = c.args.pass.now in
    let q = c.claim_place_by_turns.new.pass in
    let sc = scenario_seen p in
    let h = history_seen p in
    let d = c.in-Ok.draft in
    let made = draft_made sc h c.args.number c.args.site.now _ c.args.input d c.requires.up.stands c.in-Ok.ensures.ready in
    let due = taken_is_due sc h c.args.number c.args.input c.requires.turns.restless c.requires.due c.requires.takes in
    let cl = c.in-Ok-claim_place_by_turns.ensures.claimed in
    let step : SiteStep = c.in-Ok.draft.plan.step in
    let is : step ≡ step_kept c.args.input (made_by sc h c.args.number c.args.input) = made.step_is in
    let e : Entry = entry_of_plan c.args.number c.args.input step in
    let allows = step_allowed sc h c.args.number c.args.input step is c.requires.turns.some c.requires.up.up due in
    let may : MayEnterBehind (seen_by q) e =
    may_commit p (seen_by q) _ e cl.between c.requires.turns.owns cl.grew cl.played cl.is c.requires.turns.played c.in-Ok-claim_place_by_turns.ensures.played c.requires.turns.some c.requires.turns.exists c.requires.turns.restless allows
    c.requires.takes (omega arith) in
    subst (λ (y : Entry). MayEnterBehind (seen_by q) y) (sym c.step_with-step.ensures.entry) may

pub commit_entry-requires-clause-alone : goal.commit_entry-requires-clause-alone
commit_entry-requires-clause-alone g c = λ calm.
    let p = c.args.pass.now in
    let q = c.claim_place_by_turns.new.pass in
    let cl = c.in-Ok-claim_place_by_turns.ensures.claimed in
    let restless = still_restless p (seen_by q) cl.between c.args.number _ c.requires.turns.owns cl.grew cl.played cl.is c.requires.turns.played c.in-Ok-claim_place_by_turns.ensures.played c.requires.turns.restless in
    absurd (let both = sym calm ∙ restless in cc)

pub commit_entry-requires-in-Err-write-clause-owns : goal.commit_entry-requires-in-Err-write-clause-owns
commit_entry-requires-in-Err-write-clause-owns g c =
    let p = c.args.pass.now in
    let q = c.claim_place_by_turns.new.pass in
    subst (λ (y : Entry). Owns q y.owner) (sym c.fall_over-fall.ensures) (still_owns p q c.args.number c.in-Ok-claim_place_by_turns.ensures.same c.requires.turns.owns)

pub commit_entry-requires-in-Err-write-clause-may : goal.commit_entry-requires-in-Err-write-clause-may
commit_entry-requires-in-Err-write-clause-may g c =
    let p = c.args.pass.now in
    let q = c.claim_place_by_turns.new.pass in
    let sc = scenario_seen p in
    let h = history_seen p in
    let d = c.in-Ok.draft in
    let made = draft_made sc h c.args.number c.args.site.now _ c.args.input d c.requires.up.stands c.in-Ok.ensures.ready in
    let due = taken_is_due sc h c.args.number c.args.input c.requires.turns.restless c.requires.due c.requires.takes in
    let cl = c.in-Ok-claim_place_by_turns.ensures.claimed in
    let records : List Record = d.plan.step.records in
    let rs : records ≡ (made_by sc h c.args.number c.args.input).records =
    records_made sc h c.args.number c.args.input d.plan.step made.step_is in
    let e : Entry = record { owner = c.args.number; act = Fall d.inputs records c.in-Err-write.why } in
    let allows = fall_allowed sc h c.args.number c.args.input d.inputs records c.in-Err-write.why made.inputs_are rs c.requires.turns.some c.requires.up.up due
    (λ none. c.in-Err-write.ensures.some (c.records-records.ensures ∙ records_made sc h c.args.number c.args.input d.plan.step made.step_is ∙ sym rs ∙ none)) in
    let may : MayEnterBehind (seen_by q) e =
    may_commit p (seen_by q) _ e cl.between c.requires.turns.owns cl.grew cl.played cl.is c.requires.turns.played c.in-Ok-claim_place_by_turns.ensures.played c.requires.turns.some c.requires.turns.exists c.requires.turns.restless allows
    (fall_takes sc h c.args.number c.args.input d.inputs made.inputs_are c.requires.takes) (omega arith) in
    subst (λ (y : Entry). MayEnterBehind (seen_by q) y) (sym c.fall_over-fall.ensures) may

pub commit_entry-requires-in-Err-write-clause-alone : goal.commit_entry-requires-in-Err-write-clause-alone
commit_entry-requires-in-Err-write-clause-alone g c = λ calm.
    let p = c.args.pass.now in
    let q = c.claim_place_by_turns.new.pass in
    let cl = c.in-Ok-claim_place_by_turns.ensures.claimed in
    let restless = still_restless p (seen_by q) cl.between c.args.number _ c.requires.turns.owns cl.grew cl.played cl.is c.requires.turns.played c.in-Ok-claim_place_by_turns.ensures.played c.requires.turns.restless in
    absurd (let both = sym calm ∙ restless in cc)

pub returns-in-Ok-write-clause-turned : goal.returns-in-Ok-write-clause-turned
returns-in-Ok-write-clause-turned g c =
    let p = c.args.pass.now in
    let q = c.claim_place_by_turns.new.pass in
    let sc = scenario_seen p in
    let h = history_seen p in
    let d = c.in-Ok.draft in
    let made = draft_made sc h c.args.number c.args.site.now _ c.args.input d c.requires.up.stands c.in-Ok.ensures.ready in
    let due = taken_is_due sc h c.args.number c.args.input c.requires.turns.restless c.requires.due c.requires.takes in
    let cl = c.in-Ok-claim_place_by_turns.ensures.claimed in
    let step : SiteStep = c.in-Ok.draft.plan.step in
    let is : step ≡ step_kept c.args.input (made_by sc h c.args.number c.args.input) = made.step_is in
    let e : Entry = entry_of_plan c.args.number c.args.input step in
    let allows = step_allowed sc h c.args.number c.args.input step is c.requires.turns.some c.requires.up.up due in
    let r = c.commit_entry.new.pass in
    let P : Entry → Type 0 = λ y. (later : List Mark) × GrewByOthers belongs q later × (seen_by r ≡ later ++ mark.Entered (numbered_on (entries_of later) y) ∷ []) × IsPlayed later in
    let ent : P e = subst P c.step_with-step.ensures.entry c.commit_entry.ensures.entered in
    let owns = still_owns p q c.args.number c.in-Ok-claim_place_by_turns.ensures.same c.requires.turns.owns in
    let b = behind_of p q r c.args.number _ e c.requires.turns.owns owns cl.between cl.grew cl.is ent.0 ent.1 ent.2 cl.played ent.3 in
    entered_turn c.args.wire.now p q r c.args.number _ e ent.0 b refl c.requires.turns.played c.in-Ok-claim_place_by_turns.ensures.played c.commit_entry.ensures.played c.requires.turns.some sc h allows tt
    (step_used _ c.args.input step.records step.outs step.told refl)
    c.commit_entry.ensures.idle c.in-Ok-claim_place_by_turns.ensures.same c.commit_entry.ensures.same

pub returns-in-Ok-write-clause-none_back : goal.returns-in-Ok-write-clause-none_back
returns-in-Ok-write-clause-none_back g c =
    let p = c.args.pass.now in
    let q = c.claim_place_by_turns.new.pass in
    let r = c.commit_entry.new.pass in
    let cl = c.in-Ok-claim_place_by_turns.ensures.claimed in
    let e : Entry = entry_of_plan c.args.number c.args.input c.in-Ok.draft.plan.step in
    let P : Entry → Type 0 = λ y. (later : List Mark) × GrewByOthers belongs q later × (seen_by r ≡ later ++ mark.Entered (numbered_on (entries_of later) y) ∷ []) × IsPlayed later in
    let ent : P e = subst P c.step_with-step.ensures.entry c.commit_entry.ensures.entered in
    let owns = still_owns p q c.args.number c.in-Ok-claim_place_by_turns.ensures.same c.requires.turns.owns in
    let b = behind_of p q r c.args.number _ e c.requires.turns.owns owns cl.between cl.grew cl.is ent.0 ent.1 ent.2 cl.played ent.3 in
    entered_back c.args.number _ (seen_by p) (seen_by q) ent.0 (seen_by r) e b (omega arith)

pub returns-in-Ok-write-clause-ended : goal.returns-in-Ok-write-clause-ended
returns-in-Ok-write-clause-ended g c =
    let p = c.args.pass.now in
    let q = c.claim_place_by_turns.new.pass in
    let sc = scenario_seen p in
    let h = history_seen p in
    let d = c.in-Ok.draft in
    let made = draft_made sc h c.args.number c.args.site.now _ c.args.input d c.requires.up.stands c.in-Ok.ensures.ready in
    let due = taken_is_due sc h c.args.number c.args.input c.requires.turns.restless c.requires.due c.requires.takes in
    let cl = c.in-Ok-claim_place_by_turns.ensures.claimed in
    let step : SiteStep = c.in-Ok.draft.plan.step in
    let is : step ≡ step_kept c.args.input (made_by sc h c.args.number c.args.input) = made.step_is in
    let e : Entry = entry_of_plan c.args.number c.args.input step in
    let allows = step_allowed sc h c.args.number c.args.input step is c.requires.turns.some c.requires.up.up due in
    let r = c.commit_entry.new.pass in
    let P : Entry → Type 0 = λ y. (later : List Mark) × GrewByOthers belongs q later × (seen_by r ≡ later ++ mark.Entered (numbered_on (entries_of later) y) ∷ []) × IsPlayed later in
    let ent : P e = subst P c.step_with-step.ensures.entry c.commit_entry.ensures.entered in
    let owns = still_owns p q c.args.number c.in-Ok-claim_place_by_turns.ensures.same c.requires.turns.owns in
    let b = behind_of p q r c.args.number _ e c.requires.turns.owns owns cl.between cl.grew cl.is ent.0 ent.1 ent.2 cl.played ent.3 in
    let now = entries_of ent.0 in
    let m = meanwhile c.args.number _ (seen_by p) (seen_by q) ent.0 (seen_by r) e b refl c.requires.turns.played c.in-Ok-claim_place_by_turns.ensures.played c.commit_entry.ensures.played in
    let up : IsUp g.D.Disk.meaning sc now c.args.number c.args.site.now c.args.log.now c.args.rose.now c.args.logged.now =
    up_meanwhile g.D.Disk.meaning sc h now c.args.number (Up c.args.site.now c.args.log.now c.args.rose.now c.args.logged.now) m c.requires.up in
    let here = made_meanwhile sc h now c.args.number c.args.input d m made in
    let all = entries c.args.number _ (seen_by p) (seen_by q) ent.0 (seen_by r) e b refl c.requires.turns.played c.in-Ok-claim_place_by_turns.ensures.played c.commit_entry.ensures.played in
    let more = history_seen r in
    let entered = step_entered sc now more c.args.number c.args.input step here.step_is all in
    let ready : StandsBy sc now c.args.number c.args.rose.now c.prepare_by_turns.new.site =
    record { alike = c.in-Ok.ensures.still.stands sc now c.args.number c.args.rose.now up.stands.alike; risen = up.stands.risen; order = up.stands.order } in
    let turned = entered_turn c.args.wire.now p q r c.args.number _ e ent.0 b refl c.requires.turns.played c.in-Ok-claim_place_by_turns.ensures.played c.commit_entry.ensures.played c.requires.turns.some sc h allows tt
    (step_used _ c.args.input step.records step.outs step.told refl)
    c.commit_entry.ensures.idle c.in-Ok-claim_place_by_turns.ensures.same c.commit_entry.ensures.same in
    let keys = (keys_stay p r c.requires.turns.played turned.turned.seen).0 in
    let order : IsLogInOrder c.args.number (log_of sc (now ++ entry_of sc now c.args.number c.args.input ∷ []) c.args.number) =
    subst (λ (l : List Entry). IsLogInOrder c.args.number (log_of sc l c.args.number)) entered
    (subst (λ (x : Scenario). IsLogInOrder c.args.number (log_of x more c.args.number)) keys
    (log_in_order c.logs_are_sound.ensures.orderly c.logs_are_sound.ensures.sets (scenario_seen r) more c.args.number c.commit_entry.ensures.played.given c.commit_entry.ensures.played.legal)) in
    let stood : StandsBy sc h c.args.number c.args.rose.now c.prepare_by_turns.new.site =
    record { alike = c.in-Ok.ensures.still.stands sc h c.args.number c.args.rose.now c.requires.up.stands.alike; risen = c.requires.up.stands.risen; order = c.requires.up.stands.order } in
    let slice : c.records-records.result.now ≡ (made_by sc h c.args.number c.args.input).records = c.records-records.ensures ∙ records_made sc h c.args.number c.args.input d.plan.step made.step_is in
    let then : Follows c.args.number (log_of sc h c.args.number) c.records-records.result.now c.in-Ok-claim_place_by_turns.short =
    step_follows c.logs_are_sound.ensures.orderly c.logs_are_sound.ensures.sets c.logs_are_sound.ensures.sound c.logs_are_sound.ensures.mention c.logs_are_sound.ensures.begun c.logs_are_sound.ensures.votes sc h c.args.number
    c.requires.turns.played.given c.requires.turns.played.legal c.requires.up.up c.args.rose.now c.prepare_by_turns.new.site c.args.input c.in-Ok-claim_place_by_turns.short c.records-records.result.now stood c.requires.turns.some due
    slice made.back c.in-Ok-claim_place_by_turns.ensures.short in
    let follows : Follows c.args.number (log_of sc now c.args.number) c.records-records.result.now c.in-Ok-claim_place_by_turns.short =
    follows_while sc h now c.args.number c.records-records.result.now c.in-Ok-claim_place_by_turns.short m then in
    let slice_now : c.records-records.result.now ≡ (made_by sc now c.args.number c.args.input).records = c.records-records.ensures ∙ records_made sc now c.args.number c.args.input d.plan.step here.step_is in
    let wrote = c.in-Ok-write.ensures.logged c.args.number (entries_at now c.args.number) (log_of sc now c.args.number) up.logged follows.short follows.orderly follows.back in
    let logged = step_logged g.D.Disk.meaning sc now c.args.number c.args.input c.records-records.result.now c.write.new.logged c.write.new.log slice_now wrote in
    record {
      now = now;
      meanwhile = m;
      entered = entered;
      stands =
          subst (λ (l : List Entry). IsUp g.D.Disk.meaning sc l c.args.number c.step_with-step.new.site c.write.new.log c.args.rose.now c.write.new.logged) (sym entered)
          (stepped_up g.D.Disk.meaning sc now c.args.number c.args.input c.step_with-step.new.site c.write.new.log c.write.new.logged up.up
          (site_on sc now c.args.number c.args.input c.prepare_by_turns.new.site c.step_with-step.new.site d.plan.step ready here.step_is
          (ap (λ (s : SiteView). s.weights) c.step_with-step.ensures.done) (ap (λ (s : SiteView). s.site) c.step_with-step.ensures.done) c.step_with-step.ensures.stand order)
          logged c.in-Ok-write.ensures.lit
          (inputs_on sc now c.args.number c.args.input c.args.site.now.inputs _ up.inputs
          (ap (λ (s : SiteView). s.inputs) c.step_with-step.ensures.done ∙ ap (λ (s : SiteView). count_on s.inputs) c.in-Ok.ensures.still.same)));
    }

pub returns-in-Ok-claim_place_by_turns-clause-turned : goal.returns-in-Ok-claim_place_by_turns-clause-turned
returns-in-Ok-claim_place_by_turns-clause-turned g c =
    let p = c.args.pass.now in
    let q = c.claim_place_by_turns.new.pass in
    let sc = scenario_seen p in
    let h = history_seen p in
    let d = c.in-Ok.draft in
    let made = draft_made sc h c.args.number c.args.site.now _ c.args.input d c.requires.up.stands c.in-Ok.ensures.ready in
    let due = taken_is_due sc h c.args.number c.args.input c.requires.turns.restless c.requires.due c.requires.takes in
    let cl = c.in-Ok-claim_place_by_turns.ensures.claimed in
    let records : List Record = d.plan.step.records in
    let rs : records ≡ (made_by sc h c.args.number c.args.input).records =
    records_made sc h c.args.number c.args.input d.plan.step made.step_is in
    let e : Entry = record { owner = c.args.number; act = Fall d.inputs records c.in-Err-write.why } in
    let allows = fall_allowed sc h c.args.number c.args.input d.inputs records c.in-Err-write.why made.inputs_are rs c.requires.turns.some c.requires.up.up due
    (λ none. c.in-Err-write.ensures.some (c.records-records.ensures ∙ records_made sc h c.args.number c.args.input d.plan.step made.step_is ∙ sym rs ∙ none)) in
    let r = c.commit_entry-in-Err-write.new.pass in
    let P : Entry → Type 0 = λ y. (later : List Mark) × GrewByOthers belongs q later × (seen_by r ≡ later ++ mark.Entered (numbered_on (entries_of later) y) ∷ []) × IsPlayed later in
    let ent : P e = subst P c.fall_over-fall.ensures c.commit_entry-in-Err-write.ensures.entered in
    let owns = still_owns p q c.args.number c.in-Ok-claim_place_by_turns.ensures.same c.requires.turns.owns in
    let b = behind_of p q r c.args.number _ e c.requires.turns.owns owns cl.between cl.grew cl.is ent.0 ent.1 ent.2 cl.played ent.3 in
    entered_turn c.args.wire.now p q r c.args.number _ e ent.0 b refl c.requires.turns.played c.in-Ok-claim_place_by_turns.ensures.played c.commit_entry-in-Err-write.ensures.played c.requires.turns.some sc h allows (ap length made.inputs_are)
    (fall_used (length d.plan.step.outs) d.inputs records c.in-Err-write.why (ap length made.inputs_are))
    c.commit_entry-in-Err-write.ensures.idle c.in-Ok-claim_place_by_turns.ensures.same c.commit_entry-in-Err-write.ensures.same

pub returns-in-Ok-claim_place_by_turns-clause-none_back : goal.returns-in-Ok-claim_place_by_turns-clause-none_back
returns-in-Ok-claim_place_by_turns-clause-none_back g c =
    let p = c.args.pass.now in
    let q = c.claim_place_by_turns.new.pass in
    let r = c.commit_entry-in-Err-write.new.pass in
    let sc = scenario_seen p in
    let h = history_seen p in
    let d = c.in-Ok.draft in
    let made = draft_made sc h c.args.number c.args.site.now _ c.args.input d c.requires.up.stands c.in-Ok.ensures.ready in
    let cl = c.in-Ok-claim_place_by_turns.ensures.claimed in
    let e : Entry = record { owner = c.args.number; act = Fall d.inputs d.plan.step.records c.in-Err-write.why } in
    let P : Entry → Type 0 = λ y. (later : List Mark) × GrewByOthers belongs q later × (seen_by r ≡ later ++ mark.Entered (numbered_on (entries_of later) y) ∷ []) × IsPlayed later in
    let ent : P e = subst P c.fall_over-fall.ensures c.commit_entry-in-Err-write.ensures.entered in
    let owns = still_owns p q c.args.number c.in-Ok-claim_place_by_turns.ensures.same c.requires.turns.owns in
    let b = behind_of p q r c.args.number _ e c.requires.turns.owns owns cl.between cl.grew cl.is ent.0 ent.1 ent.2 cl.played ent.3 in
    let one : length d.inputs ≡ 1 = ap length made.inputs_are in
    entered_back c.args.number _ (seen_by p) (seen_by q) ent.0 (seen_by r) e b (omega (arith, one))

pub returns-in-Ok-claim_place_by_turns-clause-ended : goal.returns-in-Ok-claim_place_by_turns-clause-ended
returns-in-Ok-claim_place_by_turns-clause-ended g c =
    let p = c.args.pass.now in
    let q = c.claim_place_by_turns.new.pass in
    let sc = scenario_seen p in
    let h = history_seen p in
    let d = c.in-Ok.draft in
    let made = draft_made sc h c.args.number c.args.site.now _ c.args.input d c.requires.up.stands c.in-Ok.ensures.ready in
    let due = taken_is_due sc h c.args.number c.args.input c.requires.turns.restless c.requires.due c.requires.takes in
    let cl = c.in-Ok-claim_place_by_turns.ensures.claimed in
    let records : List Record = d.plan.step.records in
    let rs : records ≡ (made_by sc h c.args.number c.args.input).records =
    records_made sc h c.args.number c.args.input d.plan.step made.step_is in
    let e : Entry = record { owner = c.args.number; act = Fall d.inputs records c.in-Err-write.why } in
    let allows = fall_allowed sc h c.args.number c.args.input d.inputs records c.in-Err-write.why made.inputs_are rs c.requires.turns.some c.requires.up.up due
    (λ none. c.in-Err-write.ensures.some (c.records-records.ensures ∙ records_made sc h c.args.number c.args.input d.plan.step made.step_is ∙ sym rs ∙ none)) in
    let r = c.commit_entry-in-Err-write.new.pass in
    let P : Entry → Type 0 = λ y. (later : List Mark) × GrewByOthers belongs q later × (seen_by r ≡ later ++ mark.Entered (numbered_on (entries_of later) y) ∷ []) × IsPlayed later in
    let ent : P e = subst P c.fall_over-fall.ensures c.commit_entry-in-Err-write.ensures.entered in
    let owns = still_owns p q c.args.number c.in-Ok-claim_place_by_turns.ensures.same c.requires.turns.owns in
    let b = behind_of p q r c.args.number _ e c.requires.turns.owns owns cl.between cl.grew cl.is ent.0 ent.1 ent.2 cl.played ent.3 in
    let now = entries_of ent.0 in
    let m = meanwhile c.args.number _ (seen_by p) (seen_by q) ent.0 (seen_by r) e b refl c.requires.turns.played c.in-Ok-claim_place_by_turns.ensures.played c.commit_entry-in-Err-write.ensures.played in
    let up : IsUp g.D.Disk.meaning sc now c.args.number c.args.site.now c.args.log.now c.args.rose.now c.args.logged.now =
    up_meanwhile g.D.Disk.meaning sc h now c.args.number (Up c.args.site.now c.args.log.now c.args.rose.now c.args.logged.now) m c.requires.up in
    let here = made_meanwhile sc h now c.args.number c.args.input d m made in
    let all = entries c.args.number _ (seen_by p) (seen_by q) ent.0 (seen_by r) e b refl c.requires.turns.played c.in-Ok-claim_place_by_turns.ensures.played c.commit_entry-in-Err-write.ensures.played in
    let more = history_seen r in
    let there = records_made sc now c.args.number c.args.input d.plan.step here.step_is in
    let entered = fall_entered sc now more c.args.number c.args.input d.inputs records c.in-Err-write.why here.inputs_are there all in
    let disk = c.write.new.log.disk in
    let stood : StandsBy sc h c.args.number c.args.rose.now c.prepare_by_turns.new.site =
    record { alike = c.in-Ok.ensures.still.stands sc h c.args.number c.args.rose.now c.requires.up.stands.alike; risen = c.requires.up.stands.risen; order = c.requires.up.stands.order } in
    let slice : c.records-records.result.now ≡ (made_by sc h c.args.number c.args.input).records = c.records-records.ensures ∙ records_made sc h c.args.number c.args.input d.plan.step made.step_is in
    let then : Follows c.args.number (log_of sc h c.args.number) c.records-records.result.now c.in-Ok-claim_place_by_turns.short =
    step_follows c.logs_are_sound.ensures.orderly c.logs_are_sound.ensures.sets c.logs_are_sound.ensures.sound c.logs_are_sound.ensures.mention c.logs_are_sound.ensures.begun c.logs_are_sound.ensures.votes sc h c.args.number
    c.requires.turns.played.given c.requires.turns.played.legal c.requires.up.up c.args.rose.now c.prepare_by_turns.new.site c.args.input c.in-Ok-claim_place_by_turns.short c.records-records.result.now stood c.requires.turns.some due
    slice made.back c.in-Ok-claim_place_by_turns.ensures.short in
    let follows : Follows c.args.number (log_of sc now c.args.number) c.records-records.result.now c.in-Ok-claim_place_by_turns.short =
    follows_while sc h now c.args.number c.records-records.result.now c.in-Ok-claim_place_by_turns.short m then in
    let slice_now : c.records-records.result.now ≡ (made_by sc now c.args.number c.args.input).records = c.records-records.ensures ∙ records_made sc now c.args.number c.args.input d.plan.step here.step_is in
    record {
      now = now;
      meanwhile = m;
      fell = record { some = (λ none. c.in-Err-write.ensures.some (c.records-records.ensures ∙ records_made sc now c.args.number c.args.input d.plan.step here.step_is ∙ none)); entered = entered };
      stands =
          subst (λ (l : List Entry). DiskTells sc l c.args.number (g.D.Disk.meaning.meters disk).capacity c.write.new.logged (g.D.Disk.meaning.image disk)) (sym entered)
          (fallen_tells sc now c.args.number (g.D.Disk.meaning.meters disk).capacity c.args.input c.records-records.result.now c.in-Err-write.why c.write.new.logged (g.D.Disk.meaning.image disk) slice_now
          (c.in-Err-write.ensures.left c.args.number (entries_at now c.args.number) (log_of sc now c.args.number) up.logged follows.short follows.orderly follows.back));
    }

pub returns-clause-none_back : goal.returns-clause-none_back
returns-clause-none_back g c = still_back c.args.number (seen_by c.args.pass.now)

pub returns-in-Ok-clause-ended : goal.returns-in-Ok-clause-ended
returns-in-Ok-clause-ended g c =
    let p = c.args.pass.now in
    let q = c.claim_place_by_turns.new.pass in
    let sc = scenario_seen p in
    let h = history_seen p in
    let more = history_seen q in
    let m = c.in-Err-claim_place_by_turns.ensures.meanwhile in
    let up = still_up g.D.Disk.meaning sc h more c.args.number c.args.site.now c.prepare_by_turns.new.site c.args.log.now c.args.logged.now m c.requires.up c.in-Ok.ensures.still in
    let still : IsStill g.D.Disk.meaning sc h more c.args.number (Up c.args.site.now c.args.log.now c.args.rose.now c.args.logged.now) (Up c.prepare_by_turns.new.site c.args.log.now c.args.rose.now c.args.logged.now) =
    record { meanwhile = m; disk = refl; stands = up } in
    no_room g.D.Disk.meaning sc h more c.args.number c.args.input (Up c.args.site.now c.args.log.now c.args.rose.now c.args.logged.now) (Up c.prepare_by_turns.new.site c.args.log.now c.args.rose.now c.args.logged.now)
    c.in-Err-claim_place_by_turns.fault (c.in-Err-claim_place_by_turns.ensures.refused c.in-Err-claim_place_by_turns.fault refl) (Err c.in-Err-claim_place_by_turns.fault) refl still

pub returns-in-Ok-clause-never : goal.returns-in-Ok-clause-never
returns-in-Ok-clause-never g c = λ is.
    refuses c.in-Err-claim_place_by_turns.fault (Err c.in-Err-claim_place_by_turns.fault) (c.in-Err-claim_place_by_turns.ensures.refused c.in-Err-claim_place_by_turns.fault refl) refl input_fault.Down is

pub returns-in-Ok-clause-why : goal.returns-in-Ok-clause-why
returns-in-Ok-clause-why g c = λ why is.
    absurd (refuses c.in-Err-claim_place_by_turns.fault (Err c.in-Err-claim_place_by_turns.fault) (c.in-Err-claim_place_by_turns.ensures.refused c.in-Err-claim_place_by_turns.fault refl) refl (input_fault.Fell why) is)

pub returns-in-Ok-clause-room : goal.returns-in-Ok-clause-room
returns-in-Ok-clause-room g c = λ why is fits.
    absurd (refuses c.in-Err-claim_place_by_turns.fault (Err c.in-Err-claim_place_by_turns.fault) (c.in-Err-claim_place_by_turns.ensures.refused c.in-Err-claim_place_by_turns.fault refl) refl (input_fault.Fell why) is)

pub returns-in-Ok-claim_place_by_turns-clause-why : goal.returns-in-Ok-claim_place_by_turns-clause-why
returns-in-Ok-claim_place_by_turns-clause-why g c = λ why is.
    let sc = scenario_seen c.args.pass.now in
    let h = history_seen c.args.pass.now in
    let d = c.in-Ok.draft in
    let made = draft_made sc h c.args.number c.args.site.now _ c.args.input d c.requires.up.stands c.in-Ok.ensures.ready in
    let due = taken_is_due sc h c.args.number c.args.input c.requires.turns.restless c.requires.due c.requires.takes in
    let stood : StandsBy sc h c.args.number c.args.rose.now c.prepare_by_turns.new.site =
    record { alike = c.in-Ok.ensures.still.stands sc h c.args.number c.args.rose.now c.requires.up.stands.alike; risen = c.requires.up.stands.risen; order = c.requires.up.stands.order } in
    let slice : c.records-records.result.now ≡ (made_by sc h c.args.number c.args.input).records = c.records-records.ensures ∙ records_made sc h c.args.number c.args.input d.plan.step made.step_is in
    let then : Follows c.args.number (log_of sc h c.args.number) c.records-records.result.now c.in-Ok-claim_place_by_turns.short =
    step_follows c.logs_are_sound.ensures.orderly c.logs_are_sound.ensures.sets c.logs_are_sound.ensures.sound c.logs_are_sound.ensures.mention c.logs_are_sound.ensures.begun c.logs_are_sound.ensures.votes sc h c.args.number
    c.requires.turns.played.given c.requires.turns.played.legal c.requires.up.up c.args.rose.now c.prepare_by_turns.new.site c.args.input c.in-Ok-claim_place_by_turns.short c.records-records.result.now stood c.requires.turns.some due
    slice made.back c.in-Ok-claim_place_by_turns.ensures.short in
    let old = g.D.Disk.meaning.meters c.args.log.now.disk in
    let new = g.D.Disk.meaning.meters c.write.new.log.disk in
    let l = log_of sc h c.args.number in
    let brief = up_brief c.logs_are_sound.ensures.orderly c.logs_are_sound.ensures.sets c.logs_are_sound.ensures.sound c.logs_are_sound.ensures.mention c.logs_are_sound.ensures.begun c.logs_are_sound.ensures.votes sc h c.args.number
    c.requires.turns.played.given c.requires.turns.played.legal c.requires.up.up c.args.rose.now c.prepare_by_turns.new.site stood in
    let size : length d.body ≡ size_of c.records-records.result.now =
    ap length c.in-Ok.ensures.ready.drafted.body_is ∙ sym (ap size_of c.records-records.ensures) in
    let fits : HasRoomUnlessShort g.D.Disk.meaning.meters c.args.log.now l c.in-Ok-claim_place_by_turns.short (size_of c.records-records.result.now) =
    subst (λ (n : ℕ). HasRoomUnlessShort g.D.Disk.meaning.meters c.args.log.now l c.in-Ok-claim_place_by_turns.short n) size (c.in-Ok-claim_place_by_turns.ensures.due l brief c.requires.up.logged.stands.sound (λ none. c.in-Err-write.ensures.some (c.records-records.ensures ∙ none))) in
    let same : c.in-Err-write.why ≡ why = cc in
    subst (λ (w : Why). IsReason w l (made_by sc h c.args.number c.args.input).records old new) same
    (subst (λ (rs : List Record). IsReason c.in-Err-write.why l rs old new) slice
    (c.in-Err-write.ensures.reason c.args.number (entries_at h c.args.number) l c.requires.up.logged then.short fits))

pub returns-in-Ok-claim_place_by_turns-clause-room : goal.returns-in-Ok-claim_place_by_turns-clause-room
returns-in-Ok-claim_place_by_turns-clause-room g c = λ why is fits.
    let sc = scenario_seen c.args.pass.now in
    let h = history_seen c.args.pass.now in
    let d = c.in-Ok.draft in
    let made = draft_made sc h c.args.number c.args.site.now _ c.args.input d c.requires.up.stands c.in-Ok.ensures.ready in
    let slice : c.records-records.result.now ≡ (made_by sc h c.args.number c.args.input).records = c.records-records.ensures ∙ records_made sc h c.args.number c.args.input d.plan.step made.step_is in
    let size : size_of (made_by sc h c.args.number c.args.input).records ≡ length c.as_slice-body.result.now =
    ap size_of (sym slice ∙ c.records-records.ensures) ∙ sym (ap length c.in-Ok.ensures.ready.drafted.body_is) ∙ sym (ap length c.as_slice-body.ensures) in
    let same : c.in-Err-write.why ≡ why = cc in
    sym same ∙ c.in-Err-write.ensures.room c.requires.up.logged.stands.sound (subst (λ (n : ℕ). HasRoom g.D.Disk.meaning.meters c.args.log.now n) size fits)

pub returns-in-Ok-write-clause-frame : goal.returns-in-Ok-write-clause-frame
returns-in-Ok-write-clause-frame g c =
    let sc = scenario_seen c.args.pass.now in
    let h = history_seen c.args.pass.now in
    let d = c.in-Ok.draft in
    let made = draft_made sc h c.args.number c.args.site.now _ c.args.input d c.requires.up.stands c.in-Ok.ensures.ready in
    let due = taken_is_due sc h c.args.number c.args.input c.requires.turns.restless c.requires.due c.requires.takes in
    let stood : StandsBy sc h c.args.number c.args.rose.now c.prepare_by_turns.new.site =
    record { alike = c.in-Ok.ensures.still.stands sc h c.args.number c.args.rose.now c.requires.up.stands.alike; risen = c.requires.up.stands.risen; order = c.requires.up.stands.order } in
    let slice : c.records-records.result.now ≡ (made_by sc h c.args.number c.args.input).records = c.records-records.ensures ∙ records_made sc h c.args.number c.args.input d.plan.step made.step_is in
    let then : Follows c.args.number (log_of sc h c.args.number) c.records-records.result.now c.in-Ok-claim_place_by_turns.short =
    step_follows c.logs_are_sound.ensures.orderly c.logs_are_sound.ensures.sets c.logs_are_sound.ensures.sound c.logs_are_sound.ensures.mention c.logs_are_sound.ensures.begun c.logs_are_sound.ensures.votes sc h c.args.number
    c.requires.turns.played.given c.requires.turns.played.legal c.requires.up.up c.args.rose.now c.prepare_by_turns.new.site c.args.input c.in-Ok-claim_place_by_turns.short c.records-records.result.now stood c.requires.turns.some due
    slice made.back c.in-Ok-claim_place_by_turns.ensures.short in
    let l = log_of sc h c.args.number in
    let F : List Record → Type 0 = λ rs. IsOneFrame g.D.Disk.meaning.meters l rs c.args.log.now c.write.new.log in
    let size : size_of c.records-records.result.now ≡ length c.as_slice-body.result.now =
    ap size_of c.records-records.ensures ∙ sym (ap length c.in-Ok.ensures.ready.drafted.body_is) ∙ sym (ap length c.as_slice-body.ensures) in
    subst F slice
    (one_frame g.D.Disk.meaning.meters c.args.number c.args.log.now c.write.new.log l c.records-records.result.now c.in-Ok-claim_place_by_turns.short then.short
    (λ none. (c.write.ensures.same none).0) c.in-Ok-write.ensures.end
    (λ fits. c.in-Ok-write.ensures.stays c.requires.up.logged.stands.sound (subst (λ (n : ℕ). HasRoom g.D.Disk.meaning.meters c.args.log.now n) size fits)))

pub returns-in-Ok-write-clause-takes : goal.returns-in-Ok-write-clause-takes
returns-in-Ok-write-clause-takes g c =
    let sc = scenario_seen c.args.pass.now in
    let h = history_seen c.args.pass.now in
    let d = c.in-Ok.draft in
    let made = draft_made sc h c.args.number c.args.site.now _ c.args.input d c.requires.up.stands c.in-Ok.ensures.ready in
    let T : List Record → Type 0 = λ rs. Takes (calls_for rs) (g.D.Disk.meaning.meters c.args.log.now.disk) (g.D.Disk.meaning.meters c.write.new.log.disk) in
    subst T (c.records-records.ensures ∙ records_made sc h c.args.number c.args.input d.plan.step made.step_is) c.in-Ok-write.ensures.takes
