use Rattle.std.proofs.lemmas.Bool.{leb-true}
use Rattle.std.proofs.Common.{◌≡◌, ◌≢◌, ◌<◌, ◌^◌, [], ◌∙◌, ℕ, ap, refl, sym, subst, List, length, arith}
use Rattle.e3_node.specs.Bodies.{DiskTells, entries_at}
use Rattle.e3_node.specs.Ends.{FellOver, IsOneFrame}
use Rattle.e3_node.specs.NodeStands.{IsUp, StandsBy}
use Rattle.e3_node.specs.SharedStands.{HasEntered}
use Rattle.e3_node.specs.declared.fault.InputFault.TheVariants as input_fault
use Rattle.e3_site.specs.SiteView.{SiteView, count_on, entry_of_plan, step_kept}
use Rattle.e3_node.specs.site_log.Ends.{HasRoom, HasRoomUnlessShort, IsReason, Takes, calls_for, size_of}
use Rattle.e3_types.specs.declared.entries.Act.TheVariants.{Fall}
use Rattle.e3_types.specs.declared.entries.Entry.{Entry}
use Rattle.e3_types.specs.declared.entries.Why.{Why}
use Rattle.e3_types.specs.declared.records.Record.{Record}
use Rattle.e3_wire.specs.Marks.{UsesAll, entries_of, scenario_of, most_of}
use Rattle.e3_wire.specs.Wires.{MayEnterBehind}
use Rattle.e3_world.specs.Legal.{made_by}
use Rattle.e3_world.specs.Moves.{log_of}
use Rattle.e3_world.specs.declared.lives.SiteStep.{SiteStep}
use Rattle.e3_node.proofs.Counts.{may_turn, one_more_entry}
use Rattle.e3_node.proofs.Framing.{one_frame}
use Rattle.e3_node.proofs.Guarding.{first_takes_least}
use Rattle.e3_node.proofs.Orders.{step_order}
use Rattle.e3_node.proofs.Refused.{for_memory, not_full, same_memory}
use Rattle.e3_node.proofs.Sharing.{fall_uses, has_from, may_enter, step_uses, under}
use Rattle.e3_node.proofs.Steps.{draft_made, fall_allowed, fall_entered, fall_takes, fallen_tells, inputs_on, own_are_few, own_stands, records_made, site_on, step_allowed, step_entered, step_logged, stepped_up}
use Rattle.e3_node.proofs.Written.{Follows, step_follows, up_brief}
use Rattle.e3_node.proofs.stepping.step.Goals as goal

pub prepare-requires : goal.prepare-requires
prepare-requires g c =
    let was = c.args.shared.now in
    let played = c.requires.shared.stands.played in
    let within = under was played in
    let few = played.few in (
      own_stands (scenario_of was) (entries_of was) c.args.number c.args.site.now c.requires.up.stands,
      own_are_few (scenario_of was) (entries_of was) c.args.number c.args.site.now c.requires.up.stands c.requires.up.up (omega (arith, within, few)),
    )

pub write-requires-clause-may : goal.write-requires-clause-may
write-requires-clause-may g c =
    let was = c.args.shared.now in
    let h = entries_of was in
    may_turn g.D.Disk.meaning h c.args.number (log_of (scenario_of was) h c.args.number) c.args.logged.now c.args.log.now c.in-Ok-claim_place.short c.requires.up.logged
    (one_more_entry was (length h) c.requires.shared.stands.played (λ all. (let left : length h < most_of was = grind (arith, c.is_full.ensures, c.if-is_full.false) in omega (arith, left, all)))) c.in-Ok-claim_place.ensures.body

pub enter-requires-clause-may : goal.enter-requires-clause-may
enter-requires-clause-may g c =
    let was = c.args.shared.now in
    let sc = scenario_of was in
    let h = entries_of was in
    let d = c.in-Ok.draft in
    let made = draft_made sc h c.args.number c.args.site.now _ c.args.input d c.requires.up.stands c.in-Ok.ensures.ready in
    let step : SiteStep = c.in-Ok.draft.plan.step in
    let is : step ≡ step_kept c.args.input (made_by sc h c.args.number c.args.input) = made.step_is in
    let e : Entry = entry_of_plan c.args.number c.args.input step in
    let small : length d.plan.step.outs < 2 ^ 32 = c.in-Ok.ensures.ready.few in
    let may : MayEnterBehind c.claim_place.new.shared e =
    may_enter was c.claim_place.new.shared _ e c.in-Ok-claim_place.ensures.claimed c.requires.shared.some (step_allowed sc h c.args.number c.args.input step is c.requires.shared.some c.requires.up.up c.requires.due)
    (first_takes_least sc h c.args.number c.args.input c.requires.due c.requires.first) (omega arith) small in
    subst (λ (x : Entry). MayEnterBehind c.claim_place.new.shared x) (sym c.step_with-step.ensures.entry) may

pub enter-requires-clause-all : goal.enter-requires-clause-all
enter-requires-clause-all g c =
    let step : SiteStep = c.in-Ok.draft.plan.step in
    subst (λ (x : Entry). UsesAll c.claim_place.new.shared x) (sym c.step_with-step.ensures.entry)
    (step_uses c.args.number _ c.args.shared.now c.claim_place.new.shared c.args.input step.records step.outs step.told c.in-Ok-claim_place.ensures.claimed refl)

pub enter-requires-in-Err-write-clause-may : goal.enter-requires-in-Err-write-clause-may
enter-requires-in-Err-write-clause-may g c =
    let was = c.args.shared.now in
    let sc = scenario_of was in
    let h = entries_of was in
    let d = c.in-Ok.draft in
    let made = draft_made sc h c.args.number c.args.site.now _ c.args.input d c.requires.up.stands c.in-Ok.ensures.ready in
    let records : List Record = d.plan.step.records in
    let rs : records ≡ (made_by sc h c.args.number c.args.input).records =
    records_made sc h c.args.number c.args.input d.plan.step made.step_is in
    let e : Entry = record { owner = c.args.number; act = Fall d.inputs records c.in-Err-write.why } in
    let small : length d.plan.step.outs < 2 ^ 32 = c.in-Ok.ensures.ready.few in
    let may : MayEnterBehind c.claim_place.new.shared e =
    may_enter was c.claim_place.new.shared _ e c.in-Ok-claim_place.ensures.claimed c.requires.shared.some
    (fall_allowed sc h c.args.number c.args.input d.inputs records c.in-Err-write.why made.inputs_are rs c.requires.shared.some c.requires.up.up c.requires.due
    (λ none. c.in-Err-write.ensures.some (c.records-records.ensures ∙ records_made sc h c.args.number c.args.input d.plan.step made.step_is ∙ sym rs ∙ none)))
    (fall_takes sc h c.args.number c.args.input d.inputs made.inputs_are (first_takes_least sc h c.args.number c.args.input c.requires.due c.requires.first)) (omega arith) small in
    subst (λ (x : Entry). MayEnterBehind c.claim_place.new.shared x) (sym c.fall_over-fall.ensures) may

pub enter-requires-in-Err-write-clause-all : goal.enter-requires-in-Err-write-clause-all
enter-requires-in-Err-write-clause-all g c =
    let d = c.in-Ok.draft in
    subst (λ (x : Entry). UsesAll c.claim_place.new.shared x) (sym c.fall_over-fall.ensures)
    (fall_uses c.args.number _ c.args.shared.now c.claim_place.new.shared d.inputs d.plan.step.records c.in-Err-write.why
    (ap length c.in-Ok.ensures.ready.drafted.inputs_are) c.in-Ok-claim_place.ensures.claimed)

pub returns-in-Ok-write-clause-shared : goal.returns-in-Ok-write-clause-shared
returns-in-Ok-write-clause-shared g c =
    let was = c.args.shared.now in
    let sc = scenario_of was in
    let h = entries_of was in
    let d = c.in-Ok.draft in
    let made = draft_made sc h c.args.number c.args.site.now _ c.args.input d c.requires.up.stands c.in-Ok.ensures.ready in
    let step : SiteStep = c.in-Ok.draft.plan.step in
    let is : step ≡ step_kept c.args.input (made_by sc h c.args.number c.args.input) = made.step_is in
    let e : Entry = entry_of_plan c.args.number c.args.input step in
    let has : HasEntered e was c.enter.new.shared = has_from was c.claim_place.new.shared c.enter.new.shared _ c.step_with-step.result e c.step_with-step.ensures.entry c.in-Ok-claim_place.ensures.claimed c.enter.ensures in
    has.on

pub returns-in-Ok-write-clause-stepped : goal.returns-in-Ok-write-clause-stepped
returns-in-Ok-write-clause-stepped g c =
    let was = c.args.shared.now in
    let sc = scenario_of was in
    let h = entries_of was in
    let d = c.in-Ok.draft in
    let made = draft_made sc h c.args.number c.args.site.now _ c.args.input d c.requires.up.stands c.in-Ok.ensures.ready in
    let step : SiteStep = c.in-Ok.draft.plan.step in
    let is : step ≡ step_kept c.args.input (made_by sc h c.args.number c.args.input) = made.step_is in
    let e : Entry = entry_of_plan c.args.number c.args.input step in
    let has : HasEntered e was c.enter.new.shared = has_from was c.claim_place.new.shared c.enter.new.shared _ c.step_with-step.result e c.step_with-step.ensures.entry c.in-Ok-claim_place.ensures.claimed c.enter.ensures in
    step_entered sc h (entries_of c.enter.new.shared) c.args.number c.args.input step is has.entries

pub returns-in-Ok-write-clause-up : goal.returns-in-Ok-write-clause-up
returns-in-Ok-write-clause-up g c =
    let was = c.args.shared.now in
    let sc = scenario_of was in
    let h = entries_of was in
    let d = c.in-Ok.draft in
    let made = draft_made sc h c.args.number c.args.site.now _ c.args.input d c.requires.up.stands c.in-Ok.ensures.ready in
    let step : SiteStep = c.in-Ok.draft.plan.step in
    let is : step ≡ step_kept c.args.input (made_by sc h c.args.number c.args.input) = made.step_is in
    let e : Entry = entry_of_plan c.args.number c.args.input step in
    let has : HasEntered e was c.enter.new.shared = has_from was c.claim_place.new.shared c.enter.new.shared _ c.step_with-step.result e c.step_with-step.ensures.entry c.in-Ok-claim_place.ensures.claimed c.enter.ensures in
    let entered = step_entered sc h (entries_of c.enter.new.shared) c.args.number c.args.input step is has.entries in
    let ready : StandsBy sc h c.args.number c.args.rose.now c.prepare.new.site =
    record { alike = c.in-Ok.ensures.still.stands sc h c.args.number c.args.rose.now c.requires.up.stands.alike; risen = c.requires.up.stands.risen; order = c.requires.up.stands.order } in
    let slice : c.records-records.result.now ≡ (made_by sc h c.args.number c.args.input).records = c.records-records.ensures ∙ records_made sc h c.args.number c.args.input d.plan.step made.step_is in
    let follows : Follows c.args.number (log_of sc h c.args.number) c.records-records.result.now c.in-Ok-claim_place.short =
    step_follows c.logs_are_sound.ensures.orderly c.logs_are_sound.ensures.sets c.logs_are_sound.ensures.sound c.logs_are_sound.ensures.mention c.logs_are_sound.ensures.begun c.logs_are_sound.ensures.votes sc h c.args.number
    c.requires.shared.stands.played.given c.requires.shared.stands.played.legal c.requires.up.up c.args.rose.now c.prepare.new.site c.args.input c.in-Ok-claim_place.short c.records-records.result.now ready c.requires.shared.some c.requires.due
    slice made.back c.in-Ok-claim_place.ensures.short in
    let order = step_order c.logs_are_sound.ensures.orderly c.logs_are_sound.ensures.sets sc h c.args.number c.args.input
    c.requires.shared.stands.played.given c.requires.shared.stands.played.legal c.requires.shared.some c.requires.up.up c.requires.due in
    let wrote = c.in-Ok-write.ensures.logged c.args.number (entries_at h c.args.number) (log_of sc h c.args.number) c.requires.up.logged follows.short follows.orderly follows.back in
    let logged = step_logged g.D.Disk.meaning sc h c.args.number c.args.input c.records-records.result.now c.write.new.logged c.write.new.log slice wrote in
    subst (λ (l : List Entry). IsUp g.D.Disk.meaning sc l c.args.number c.step_with-step.new.site c.write.new.log c.args.rose.now c.write.new.logged) (sym entered)
    (stepped_up g.D.Disk.meaning sc h c.args.number c.args.input c.step_with-step.new.site c.write.new.log c.write.new.logged c.requires.up.up
    (site_on sc h c.args.number c.args.input c.prepare.new.site c.step_with-step.new.site d.plan.step ready made.step_is
    (ap (λ (s : SiteView). s.weights) c.step_with-step.ensures.done) (ap (λ (s : SiteView). s.site) c.step_with-step.ensures.done) c.step_with-step.ensures.stand order)
    logged c.in-Ok-write.ensures.lit
    (inputs_on sc h c.args.number c.args.input c.args.site.now.inputs _ c.requires.up.inputs
    (ap (λ (s : SiteView). s.inputs) c.step_with-step.ensures.done ∙ ap (λ (s : SiteView). count_on s.inputs) c.in-Ok.ensures.still.same)))

pub returns-in-Ok-claim_place-clause-shared : goal.returns-in-Ok-claim_place-clause-shared
returns-in-Ok-claim_place-clause-shared g c =
    let was = c.args.shared.now in
    let sc = scenario_of was in
    let h = entries_of was in
    let d = c.in-Ok.draft in
    let made = draft_made sc h c.args.number c.args.site.now _ c.args.input d c.requires.up.stands c.in-Ok.ensures.ready in
    let records : List Record = d.plan.step.records in
    let rs : records ≡ (made_by sc h c.args.number c.args.input).records =
    records_made sc h c.args.number c.args.input d.plan.step made.step_is in
    let e : Entry = record { owner = c.args.number; act = Fall d.inputs records c.in-Err-write.why } in
    let has : HasEntered e was c.enter-in-Err-write.new.shared = has_from was c.claim_place.new.shared c.enter-in-Err-write.new.shared _ c.fall_over-fall.result e c.fall_over-fall.ensures c.in-Ok-claim_place.ensures.claimed c.enter-in-Err-write.ensures in
    has.on

pub returns-in-Ok-claim_place-clause-fell : goal.returns-in-Ok-claim_place-clause-fell
returns-in-Ok-claim_place-clause-fell g c = λ why is.
    let was = c.args.shared.now in
    let sc = scenario_of was in
    let h = entries_of was in
    let d = c.in-Ok.draft in
    let made = draft_made sc h c.args.number c.args.site.now _ c.args.input d c.requires.up.stands c.in-Ok.ensures.ready in
    let records : List Record = d.plan.step.records in
    let rs : records ≡ (made_by sc h c.args.number c.args.input).records =
    records_made sc h c.args.number c.args.input d.plan.step made.step_is in
    let e : Entry = record { owner = c.args.number; act = Fall d.inputs records c.in-Err-write.why } in
    let has : HasEntered e was c.enter-in-Err-write.new.shared = has_from was c.claim_place.new.shared c.enter-in-Err-write.new.shared _ c.fall_over-fall.result e c.fall_over-fall.ensures c.in-Ok-claim_place.ensures.claimed c.enter-in-Err-write.ensures in
    let entered = fall_entered sc h (entries_of c.enter-in-Err-write.new.shared) c.args.number c.args.input d.inputs records c.in-Err-write.why made.inputs_are rs has.entries in
    let more = entries_of c.enter-in-Err-write.new.shared in
    let some : (made_by sc h c.args.number c.args.input).records ≢ [] = (λ none. c.in-Err-write.ensures.some (c.records-records.ensures ∙ records_made sc h c.args.number c.args.input d.plan.step made.step_is ∙ none)) in
    let over : FellOver sc h c.args.number c.args.input c.in-Err-write.why more = record { some = some; entered = entered } in
    let ready : StandsBy sc h c.args.number c.args.rose.now c.prepare.new.site =
    record { alike = c.in-Ok.ensures.still.stands sc h c.args.number c.args.rose.now c.requires.up.stands.alike; risen = c.requires.up.stands.risen; order = c.requires.up.stands.order } in
    let slice : c.records-records.result.now ≡ (made_by sc h c.args.number c.args.input).records = c.records-records.ensures ∙ records_made sc h c.args.number c.args.input d.plan.step made.step_is in
    let follows : Follows c.args.number (log_of sc h c.args.number) c.records-records.result.now c.in-Ok-claim_place.short =
    step_follows c.logs_are_sound.ensures.orderly c.logs_are_sound.ensures.sets c.logs_are_sound.ensures.sound c.logs_are_sound.ensures.mention c.logs_are_sound.ensures.begun c.logs_are_sound.ensures.votes sc h c.args.number
    c.requires.shared.stands.played.given c.requires.shared.stands.played.legal c.requires.up.up c.args.rose.now c.prepare.new.site c.args.input c.in-Ok-claim_place.short c.records-records.result.now ready c.requires.shared.some c.requires.due
    slice made.back c.in-Ok-claim_place.ensures.short in
    let disk = c.write.new.log.disk in
    let stands : DiskTells sc more c.args.number (g.D.Disk.meaning.meters disk).capacity c.write.new.logged (g.D.Disk.meaning.image disk) =
    subst (λ (l : List Entry). DiskTells sc l c.args.number (g.D.Disk.meaning.meters disk).capacity c.write.new.logged (g.D.Disk.meaning.image disk)) (sym entered)
    (fallen_tells sc h c.args.number (g.D.Disk.meaning.meters disk).capacity c.args.input c.records-records.result.now c.in-Err-write.why c.write.new.logged (g.D.Disk.meaning.image disk) slice
    (c.in-Err-write.ensures.left c.args.number (entries_at h c.args.number) (log_of sc h c.args.number) c.requires.up.logged follows.short follows.orderly follows.back)) in
    let same : c.in-Err-write.why ≡ why = cc in
    subst (λ (w : Why). FellOver sc h c.args.number c.args.input w more × DiskTells sc more c.args.number (g.D.Disk.meaning.meters disk).capacity c.write.new.logged (g.D.Disk.meaning.image disk)) same (over, stands)

pub returns-in-Ok-claim_place-clause-why : goal.returns-in-Ok-claim_place-clause-why
returns-in-Ok-claim_place-clause-why g c = λ why is.
    let was = c.args.shared.now in
    let sc = scenario_of was in
    let h = entries_of was in
    let d = c.in-Ok.draft in
    let made = draft_made sc h c.args.number c.args.site.now _ c.args.input d c.requires.up.stands c.in-Ok.ensures.ready in
    let ready : StandsBy sc h c.args.number c.args.rose.now c.prepare.new.site =
    record { alike = c.in-Ok.ensures.still.stands sc h c.args.number c.args.rose.now c.requires.up.stands.alike; risen = c.requires.up.stands.risen; order = c.requires.up.stands.order } in
    let slice : c.records-records.result.now ≡ (made_by sc h c.args.number c.args.input).records = c.records-records.ensures ∙ records_made sc h c.args.number c.args.input d.plan.step made.step_is in
    let follows : Follows c.args.number (log_of sc h c.args.number) c.records-records.result.now c.in-Ok-claim_place.short =
    step_follows c.logs_are_sound.ensures.orderly c.logs_are_sound.ensures.sets c.logs_are_sound.ensures.sound c.logs_are_sound.ensures.mention c.logs_are_sound.ensures.begun c.logs_are_sound.ensures.votes sc h c.args.number
    c.requires.shared.stands.played.given c.requires.shared.stands.played.legal c.requires.up.up c.args.rose.now c.prepare.new.site c.args.input c.in-Ok-claim_place.short c.records-records.result.now ready c.requires.shared.some c.requires.due
    slice made.back c.in-Ok-claim_place.ensures.short in
    let old = g.D.Disk.meaning.meters c.args.log.now.disk in
    let new = g.D.Disk.meaning.meters c.write.new.log.disk in
    let l = log_of sc h c.args.number in
    let brief = up_brief c.logs_are_sound.ensures.orderly c.logs_are_sound.ensures.sets c.logs_are_sound.ensures.sound c.logs_are_sound.ensures.mention c.logs_are_sound.ensures.begun c.logs_are_sound.ensures.votes sc h c.args.number
    c.requires.shared.stands.played.given c.requires.shared.stands.played.legal c.requires.up.up c.args.rose.now c.prepare.new.site ready in
    let size : length d.body ≡ size_of c.records-records.result.now =
    ap length c.in-Ok.ensures.ready.drafted.body_is ∙ sym (ap size_of c.records-records.ensures) in
    let due : HasRoomUnlessShort g.D.Disk.meaning.meters c.args.log.now l c.in-Ok-claim_place.short (size_of c.records-records.result.now) =
    subst (λ (n : ℕ). HasRoomUnlessShort g.D.Disk.meaning.meters c.args.log.now l c.in-Ok-claim_place.short n) size (c.in-Ok-claim_place.ensures.due l brief c.requires.up.logged.stands.sound (λ none. c.in-Err-write.ensures.some (c.records-records.ensures ∙ none))) in
    let same : c.in-Err-write.why ≡ why = cc in
    subst (λ (w : Why). IsReason w l (made_by sc h c.args.number c.args.input).records old new) same
    (subst (λ (rs : List Record). IsReason c.in-Err-write.why l rs old new) slice
    (c.in-Err-write.ensures.reason c.args.number (entries_at h c.args.number) l c.requires.up.logged follows.short due))

pub returns-in-Ok-claim_place-clause-room : goal.returns-in-Ok-claim_place-clause-room
returns-in-Ok-claim_place-clause-room g c = λ why is fits.
    let sc = scenario_of c.args.shared.now in
    let h = entries_of c.args.shared.now in
    let d = c.in-Ok.draft in
    let made = draft_made sc h c.args.number c.args.site.now _ c.args.input d c.requires.up.stands c.in-Ok.ensures.ready in
    let slice : c.records-records.result.now ≡ (made_by sc h c.args.number c.args.input).records = c.records-records.ensures ∙ records_made sc h c.args.number c.args.input d.plan.step made.step_is in
    let size : size_of (made_by sc h c.args.number c.args.input).records ≡ length c.as_slice-body.result.now =
    ap size_of (sym slice ∙ c.records-records.ensures) ∙ sym (ap length c.in-Ok.ensures.ready.drafted.body_is) ∙ sym (ap length c.as_slice-body.ensures) in
    let same : c.in-Err-write.why ≡ why = cc in
    sym same ∙ c.in-Err-write.ensures.room c.requires.up.logged.stands.sound (subst (λ (n : ℕ). HasRoom g.D.Disk.meaning.meters c.args.log.now n) size fits)

pub returns-in-Ok-write-clause-frame : goal.returns-in-Ok-write-clause-frame
returns-in-Ok-write-clause-frame g c =
    let was = c.args.shared.now in
    let sc = scenario_of was in
    let h = entries_of was in
    let d = c.in-Ok.draft in
    let made = draft_made sc h c.args.number c.args.site.now _ c.args.input d c.requires.up.stands c.in-Ok.ensures.ready in
    let ready : StandsBy sc h c.args.number c.args.rose.now c.prepare.new.site =
    record { alike = c.in-Ok.ensures.still.stands sc h c.args.number c.args.rose.now c.requires.up.stands.alike; risen = c.requires.up.stands.risen; order = c.requires.up.stands.order } in
    let slice : c.records-records.result.now ≡ (made_by sc h c.args.number c.args.input).records = c.records-records.ensures ∙ records_made sc h c.args.number c.args.input d.plan.step made.step_is in
    let follows : Follows c.args.number (log_of sc h c.args.number) c.records-records.result.now c.in-Ok-claim_place.short =
    step_follows c.logs_are_sound.ensures.orderly c.logs_are_sound.ensures.sets c.logs_are_sound.ensures.sound c.logs_are_sound.ensures.mention c.logs_are_sound.ensures.begun c.logs_are_sound.ensures.votes sc h c.args.number
    c.requires.shared.stands.played.given c.requires.shared.stands.played.legal c.requires.up.up c.args.rose.now c.prepare.new.site c.args.input c.in-Ok-claim_place.short c.records-records.result.now ready c.requires.shared.some c.requires.due
    slice made.back c.in-Ok-claim_place.ensures.short in
    let l = log_of sc h c.args.number in
    let F : List Record → Type 0 = λ rs. IsOneFrame g.D.Disk.meaning.meters l rs c.args.log.now c.write.new.log in
    let size : size_of c.records-records.result.now ≡ length c.as_slice-body.result.now =
    ap size_of c.records-records.ensures ∙ sym (ap length c.in-Ok.ensures.ready.drafted.body_is) ∙ sym (ap length c.as_slice-body.ensures) in
    subst F slice
    (one_frame g.D.Disk.meaning.meters c.args.number c.args.log.now c.write.new.log l c.records-records.result.now c.in-Ok-claim_place.short follows.short
    (λ none. (c.write.ensures.same none).0) c.in-Ok-write.ensures.end
    (λ fits. c.in-Ok-write.ensures.stays c.requires.up.logged.stands.sound (subst (λ (n : ℕ). HasRoom g.D.Disk.meaning.meters c.args.log.now n) size fits)))

pub returns-in-Ok-write-clause-takes : goal.returns-in-Ok-write-clause-takes
returns-in-Ok-write-clause-takes g c =
    let sc = scenario_of c.args.shared.now in
    let h = entries_of c.args.shared.now in
    let d = c.in-Ok.draft in
    let made = draft_made sc h c.args.number c.args.site.now _ c.args.input d c.requires.up.stands c.in-Ok.ensures.ready in
    let T : List Record → Type 0 = λ rs. Takes (calls_for rs) (g.D.Disk.meaning.meters c.args.log.now.disk) (g.D.Disk.meaning.meters c.write.new.log.disk) in
    subst T (c.records-records.ensures ∙ records_made sc h c.args.number c.args.input d.plan.step made.step_is) c.in-Ok-write.ensures.takes

pub returns-then-is_full-clause-full : goal.returns-then-is_full-clause-full
returns-then-is_full-clause-full g c = (λ is. leb-true _ _ (sym c.is_full.ensures ∙ c.if-is_full.true), λ all. refl)

pub returns-in-Ok-write-clause-full : goal.returns-in-Ok-write-clause-full
returns-in-Ok-write-clause-full g c = (λ is. absurd cc, λ all. absurd (not_full _ _ _ c.is_full.ensures c.if-is_full.false all))

pub returns-in-Ok-claim_place-clause-full : goal.returns-in-Ok-claim_place-clause-full
returns-in-Ok-claim_place-clause-full g c = (λ is. absurd cc, λ all. absurd (not_full _ _ _ c.is_full.ensures c.if-is_full.false all))

pub returns-clause-full : goal.returns-clause-full
returns-clause-full g c = (λ is. absurd cc, λ all. absurd (not_full _ _ _ c.is_full.ensures c.if-is_full.false all))

-- a claim that was refused here was refused for want of memory
pub returns-in-Ok-clause-full : goal.returns-in-Ok-clause-full
returns-in-Ok-clause-full g c =
    let memory = for_memory c.claim_place.result c.in-Err-claim_place.fault c.claim_place.ensures.refused c.in-Err-claim_place.is in
    (λ is. absurd (let other : input_fault.HistoryFull ≡ input_fault.NoMemory = same_memory _ _ _ memory refl is in cc), λ all. absurd (not_full _ _ _ c.is_full.ensures c.if-is_full.false all))

pub returns-in-Ok-clause-never : goal.returns-in-Ok-clause-never
returns-in-Ok-clause-never g c = λ is.
    let memory = for_memory c.claim_place.result c.in-Err-claim_place.fault c.claim_place.ensures.refused c.in-Err-claim_place.is in
    absurd (let other : input_fault.Down ≡ input_fault.NoMemory = same_memory _ _ _ memory refl is in cc)

pub returns-in-Ok-clause-fell : goal.returns-in-Ok-clause-fell
returns-in-Ok-clause-fell g c = λ why is.
    let memory = for_memory c.claim_place.result c.in-Err-claim_place.fault c.claim_place.ensures.refused c.in-Err-claim_place.is in
    absurd (let other : input_fault.Fell why ≡ input_fault.NoMemory = same_memory _ _ _ memory refl is in cc)

pub returns-in-Ok-clause-why : goal.returns-in-Ok-clause-why
returns-in-Ok-clause-why g c = λ why is.
    let memory = for_memory c.claim_place.result c.in-Err-claim_place.fault c.claim_place.ensures.refused c.in-Err-claim_place.is in
    absurd (let other : input_fault.Fell why ≡ input_fault.NoMemory = same_memory _ _ _ memory refl is in cc)

pub returns-in-Ok-clause-room : goal.returns-in-Ok-clause-room
returns-in-Ok-clause-room g c = λ why is fits.
    let memory = for_memory c.claim_place.result c.in-Err-claim_place.fault c.claim_place.ensures.refused c.in-Err-claim_place.is in
    absurd (let other : input_fault.Fell why ≡ input_fault.NoMemory = same_memory _ _ _ memory refl is in cc)
