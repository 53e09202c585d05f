use Rattle.std.proofs.Common.{rules, ◌++◌, ◌∷◌, [], refl, List, ap, sym, subst, ◌∙◌, arith}
use Rattle.std.proofs.lemmas.Grind.{common_steps}
use Rattle.e3_world.specs.Legal.{IsLine}
use Rattle.e3_net.specs.Traffic.{Traffic}
use Rattle.e3_types.specs.declared.entries.Act.TheVariants.{Line}
use Rattle.e3_wire.specs.declared.marks.Mark.{Mark}
use Rattle.e3_wire.specs.declared.marks.Mark.TheVariants as mark
use Rattle.e3_wire.specs.Marks.{entries_of, scenario_of}
use Rattle.e3_wire.specs.Stores.{marks_from}
use Rattle.e3_wire.proofs.Claiming.{few_are, not_full}
use Rattle.e3_wire.proofs.Driving.{net_line, own_entered, own_marks}
use Rattle.e3_wire.proofs.shared.Shared.line.Goals as goal

pub make_room-requires-clause-few : goal.make_room-requires-clause-few
make_room-requires-clause-few c = few_are _ _ _ _ _ _ _ _ _ _ _ _ c.self.invariant

pub invariant_of-self-2 : goal.invariant_of-self-2
invariant_of-self-2 c =
    let s = c.self.inside in
    let guard = subst (λ (l : List Mark). IsLine (scenario_of l) (entries_of l) c.args.number) (sym c.self.view_is) c.requires in
    let net = net_line s.scenario (entries_of (marks_from s.scenario s.most s.store.history.entries s.store.stored.items)) s.net.traffic c.calm.new.self.traffic c.args.number c.is_calm_in-calm.result c.self.invariant.stands.net guard.next c.is_calm_in-calm.ensures c.calm.ensures.traffic in
    let few = not_full _ _ c.self.view_is (sym c.is_full.ensures ∙ c.if-is_full.false) in
    let spare = c.push.ensures.spare in
    let entry = c.in_ok-make_room.ensures.entry in
    let capacity = c.push.ensures.capacity in
    let marks = c.in_ok-make_room.ensures.mark in
    let packets = c.self.invariant.for_packets in
    let room = c.calm.ensures.room in
    rw (c.push.ensures.entries, c.push.ensures.marks, c.in_ok-make_room.ensures.entries, c.in_ok-make_room.ensures.marks)
    (own_entered s.scenario s.most s.store.history.entries s.store.stored.items s.net.traffic s.notes.items s.places s.room s.store.spare _ _ _ c.calm.new.self.traffic (Line c.args.number) _ _ _ _ c.self.invariant (λ w. refl) guard
    net (ap (λ (t : Traffic). t.sent) c.calm.ensures.traffic) few (omega (arith, spare, entry)) c.push.ensures.known (omega (arith, capacity, marks)) (omega (arith, packets, room)))

pub returns-then-is_full : goal.returns-then-is_full
returns-then-is_full c = record {
  entered = search rules;
  kept = search rules;
  full = first_of (search rules, grind (arith, common_steps));
}

pub returns-in_err-make_room : goal.returns-in_err-make_room
returns-in_err-make_room c = record {
  entered = search rules;
  kept = search rules;
  full = first_of (search rules, grind (arith, common_steps));
}

pub returns : goal.returns
returns c = record {
  entered = (let s = c.self.inside in
      rw (c.push.ensures.entries, c.push.ensures.marks, c.in_ok-make_room.ensures.entries, c.in_ok-make_room.ensures.marks)
      (own_marks s.scenario s.most s.store.history.entries s.store.stored.items (record { owner = 0; act = Line c.args.number }) c.self.invariant.whole
      ∙ ap (λ (l : List Mark). l ++ mark.Entered (record { owner = 0; act = Line c.args.number }) ∷ []) c.self.view_is));
  kept = search rules;
  full = first_of (search rules, grind (arith, common_steps));
}
