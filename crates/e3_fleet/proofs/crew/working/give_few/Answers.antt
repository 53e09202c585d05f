use Rattle.std.proofs.Common.{◌≡◌, ◌≢◌, ◌≤◌, ◌∷◌, [], List, length, map, refl, sym, ap, subst, ◌∙◌, arith}
use Rattle.std.proofs.lemmas.List.{length-map}
use Rattle.e3_fleet.proofs.crew.Batching.{batch_worked}
use Rattle.e3_fleet.proofs.crew.Taking.{packets_may}
use Rattle.e3_fleet.proofs.crew.Turning.{owns_one}
use Rattle.e3_fleet.specs.crew.Workers.{places_alone}
use Rattle.e3_laws.specs.local.Drafts.{MayTakeAll}
use Rattle.e3_laws.specs.local.Least.{AreFirstTo}
use Rattle.e3_node.specs.Turns.{history_seen, scenario_seen}
use Rattle.e3_turn.specs.Passes.{seen_by}
use Rattle.e3_types.specs.declared.entries.Input.{Input}
use Rattle.e3_types.specs.declared.entries.Input.TheVariants as input
use Rattle.e3_types.specs.declared.messages.Packet.{Packet}
use Rattle.e3_wire.specs.Marks.{note_of}
use Rattle.e3_wire.specs.declared.marks.Note.{Note}
use Rattle.e3_fleet.proofs.crew.working.give_few.Goals as goal

some_of : (few : List Packet) → few ≢ [] → 1 ≤ length few
some_of [] some = absurd (some refl)
some_of (p ∷ few) some = omega arith

are_deliveries : (inputs : List Input) (slice few : List Packet) → inputs ≡ map input.Deliver slice → slice ≡ few → inputs ≡ map input.Deliver few
are_deliveries inputs slice few is same = is ∙ ap (map input.Deliver) same

as_long : (inputs : List Input) (slice few : List Packet) → inputs ≡ map input.Deliver slice → slice ≡ few → length inputs ≡ length few
as_long inputs slice few is same = ap (λ (l : List Input). length l) (are_deliveries inputs slice few is same) ∙ length-map few input.Deliver

pub batch-answer-requires-clause-turns : goal.batch-answer-requires-clause-turns
batch-answer-requires-clause-turns g c =
    let k = c.requires.knows in
    record { idle = c.requires.pass.idle; owns = owns_one _ _ c.requires.pass.owner_is; played = k.played; stands = k.stands; restless = k.restless }

pub batch-answer-requires-clause-few : goal.batch-answer-requires-clause-few
batch-answer-requires-clause-few g c =
    let long = as_long c.deliveries-inputs.result c.as_slice.result.now c.args.few c.deliveries-inputs.ensures c.as_slice.ensures in
    let some = some_of c.args.few c.requires.some in
    let most = c.requires.first.most in
    (omega (arith, long, some), omega (arith, long, most))

pub batch-answer-requires-clause-due : goal.batch-answer-requires-clause-due
batch-answer-requires-clause-due g c = λ up.
    let k = c.requires.knows in
    subst (λ (l : List Input). MayTakeAll (scenario_seen c.args.pass.now) (history_seen c.args.pass.now) c.args.node.now.site l) (sym (are_deliveries c.deliveries-inputs.result c.as_slice.result.now c.args.few c.deliveries-inputs.ensures c.as_slice.ensures))
    (packets_may (scenario_seen c.args.pass.now) (history_seen c.args.pass.now) c.args.node.now.site c.args.few c.requires.first.rest k.played.given k.played.legal k.stands.some up
    k.restless c.requires.through c.requires.first.queue)

pub batch-answer-requires-clause-takes : goal.batch-answer-requires-clause-takes
batch-answer-requires-clause-takes g c = λ up.
    subst (λ (l : List Input). AreFirstTo (scenario_seen c.args.pass.now) (history_seen c.args.pass.now) c.args.node.now.site l) (sym (are_deliveries c.deliveries-inputs.result c.as_slice.result.now c.args.few c.deliveries-inputs.ensures c.as_slice.ensures)) (record {
      packets = c.args.few;
      rest = c.requires.first.rest;
      deliver = refl;
      first = c.requires.first.queue;
    })

-- the places that were promised are enough
pub batch-answer-requires-clause-places : goal.batch-answer-requires-clause-places
batch-answer-requires-clause-places g c = λ up.
    let long = as_long c.deliveries-inputs.result c.as_slice.result.now c.args.few c.deliveries-inputs.ensures c.as_slice.ensures in
    let places : (note_of c.args.node.now.site (seen_by c.args.pass.now)).places ≡ length c.args.few = ap (λ (w : Note). w.places) c.requires.knows.promised in
    omega (arith, long, places)

pub returns-clause-pass : goal.returns-clause-pass
returns-clause-pass g c = record {
  idle = c.batch-answer.ensures.turned.idle;
  owner_is = c.batch-answer.ensures.turned.same.owners ∙ c.requires.pass.owner_is ∙ ap (λ s. s ∷ []) (sym c.batch-answer.ensures.site);
}

pub returns-clause-worked : goal.returns-clause-worked
returns-clause-worked g c =
    let e = c.batch-answer.ensures in
    let long = as_long c.deliveries-inputs.result c.as_slice.result.now c.args.few c.deliveries-inputs.ensures c.as_slice.ensures in
    let most = c.requires.first.most in
    batch_worked g.D.Disk.meaning c.others_leave_nodes.ensures.moves (places_alone (length c.args.few)) (seen_by c.args.pass.now)
    (seen_by c.batch-answer.new.pass) c.args.node.now c.batch-answer.new.self c.deliveries-inputs.result c.batch-answer.result c.requires.knows c.requires.first.up
    (omega (arith, long, most)) (record {
      played = e.turned.played;
      scenario = e.scenario.0;
      most = e.scenario.1;
      promised = e.promised;
      stands = e.stands;
      site = e.site;
      ended = e.ended;
      down = e.down;
      keeps = e.meters;
    })
