use Rattle.std.proofs.Common.{◌≡◌, ◌==◌, ◌++◌, ◌∷◌, [], refl, List, ap, sym, subst, ◌∙◌, arith}
use Rattle.std.specs.Prelude.{Some, find, false}
use Rattle.e3_wire.specs.Wires.{IsInTurn}
use Rattle.e3_world.specs.Items.{is_up_at}
use Rattle.e3_world.specs.Packets.{pending}
use Rattle.e3_net.specs.Traffic.{Traffic}
use Rattle.e3_types.specs.declared.entries.Act.TheVariants.{Drop}
use Rattle.e3_wire.specs.declared.marks.Mark.{Mark}
use Rattle.e3_wire.specs.declared.marks.Mark.TheVariants as mark
use Rattle.e3_wire.specs.Marks.{entries_of, scenario_of}
use Rattle.e3_wire.specs.Stores.{marks_from}
use Rattle.e3_wire.proofs.Claiming.{few_are, not_full}
use Rattle.e3_wire.proofs.Driving.{drop_guard, net_drop, own_entered, own_marks}
use Rattle.e3_wire.proofs.shared.Shared.drop_for.Goals as goal

pub make_room-requires-clause-few : goal.make_room-requires-clause-few
make_room-requires-clause-few c = few_are _ _ _ _ _ _ _ _ _ _ _ _ c.self.invariant

pub invariant_of-self-2 : goal.invariant_of-self-2
invariant_of-self-2 c =
    let s = c.self.inside in
    let least = subst (λ (l : List Mark). find (λ q. q.to == c.args.site) (pending (scenario_of l) (entries_of l)) ≡ Some c.in-Some.packet) (sym c.self.view_is) (sym c.next_to.ensures ∙ c.in-Some.is) in
    let down = subst (λ (l : List Mark). is_up_at (entries_of l) c.args.site ≡ false) (sym c.self.view_is) c.requires.down in
    let order = subst (λ (l : List Mark). IsInTurn (scenario_of l) (entries_of l) c.args.site) (sym c.self.view_is) c.requires.order in
    let guard = drop_guard s.scenario (entries_of (marks_from s.scenario s.most s.store.history.entries s.store.stored.items)) c.args.site c.in-Some.packet least down order in
    let net = net_drop s.scenario (entries_of (marks_from s.scenario s.most s.store.history.entries s.store.stored.items)) s.net.traffic c.take-taken.new.self.traffic c.args.site c.in-Some.packet c.self.invariant.stands.net least c.take-taken.ensures.traffic in
    let few = not_full _ _ c.self.view_is (sym c.is_full.ensures ∙ c.if-is_full.false) in
    let spare = c.push.ensures.spare in
    let entry = c.in_ok-make_room.ensures.entry in
    let capacity = c.push.ensures.capacity in
    let marks = c.in_ok-make_room.ensures.mark in
    let packets = c.self.invariant.for_packets in
    let room = c.take-taken.ensures.room in
    rw (c.push.ensures.entries, c.push.ensures.marks, c.in_ok-make_room.ensures.entries, c.in_ok-make_room.ensures.marks)
    (own_entered s.scenario s.most s.store.history.entries s.store.stored.items s.net.traffic s.notes.items s.places s.room s.store.spare _ _ _ c.take-taken.new.self.traffic (Drop c.in-Some.packet.number) _ _ _ _ c.self.invariant (λ w. refl) guard
    net (ap (λ (t : Traffic). t.sent) c.take-taken.ensures.traffic) few (omega (arith, spare, entry)) c.push.ensures.known (omega (arith, capacity, marks)) (omega (arith, packets, room)))

pub returns-clause-dropped : goal.returns-clause-dropped
returns-clause-dropped c =
    let s = c.self.inside in (
      c.in-Some.packet,
      sym c.next_to.ensures ∙ c.in-Some.is,
      refl,
      rw (c.push.ensures.entries, c.push.ensures.marks, c.in_ok-make_room.ensures.entries, c.in_ok-make_room.ensures.marks)
          (own_marks s.scenario s.most s.store.history.entries s.store.stored.items (record { owner = 0; act = Drop c.in-Some.packet.number }) c.self.invariant.whole
          ∙ ap (λ (l : List Mark). l ++ mark.Entered (record { owner = 0; act = Drop c.in-Some.packet.number }) ∷ []) c.self.view_is),
    )
