use Rattle.std.proofs.Common.{◌+◌, ◌≤◌, ◌++◌, List, ap, sym, subst, ◌∙◌, arith}
use Rattle.e3_wire.specs.declared.marks.Mark.{Mark}
use Rattle.e3_wire.specs.Marks.{last_owner, most_of, places_for, used_of}
use Rattle.e3_wire.proofs.Claiming.{can_be_noted, few_are, marks_placed, placed, room_alone}
use Rattle.e3_wire.proofs.shared.Shared.promise_places.Goals as goal

pub make_room-requires-clause-few : goal.make_room-requires-clause-few
make_room-requires-clause-few c = few_are _ _ _ _ _ _ _ _ _ _ _ _ c.self.invariant

pub note_claim-requires-clause-owner : goal.note_claim-requires-clause-owner
note_claim-requires-clause-owner c =
    let owner = subst (λ (l : List Mark). c.args.owner ≤ last_owner l) (sym c.self.view_is) c.requires.owner in
    (can_be_noted _ _ _ _ _ _ _ _ _ _ _ _ c.args.owner c.args.count 0 c.self.invariant owner c.ranges.count.fits (room_alone _ _ _ _ _ _ _ _ _ _ _ _ c.self.invariant)).note

pub note_claim-requires-clause-places : goal.note_claim-requires-clause-places
note_claim-requires-clause-places c =
    let owner = subst (λ (l : List Mark). c.args.owner ≤ last_owner l) (sym c.self.view_is) c.requires.owner in
    (can_be_noted _ _ _ _ _ _ _ _ _ _ _ _ c.args.owner c.args.count 0 c.self.invariant owner c.ranges.count.fits (room_alone _ _ _ _ _ _ _ _ _ _ _ _ c.self.invariant)).places

pub note_claim-requires-clause-room : goal.note_claim-requires-clause-room
note_claim-requires-clause-room c =
    let owner = subst (λ (l : List Mark). c.args.owner ≤ last_owner l) (sym c.self.view_is) c.requires.owner in
    (can_be_noted _ _ _ _ _ _ _ _ _ _ _ _ c.args.owner c.args.count 0 c.self.invariant owner c.ranges.count.fits (room_alone _ _ _ _ _ _ _ _ _ _ _ _ c.self.invariant)).room

pub invariant_of-self-2 : goal.invariant_of-self-2
invariant_of-self-2 c =
    let s = c.self.inside in
    let owner = subst (λ (l : List Mark). c.args.owner ≤ last_owner l) (sym c.self.view_is) c.requires.owner in
    let few = subst (λ (l : List Mark). used_of l + c.args.count ≤ most_of l) (sym c.self.view_is) c.requires.few in
    let marks = c.in_ok-make_room.ensures.mark in
    let capacity = c.push_places.ensures.capacity in
    rw (c.push_places.ensures.history, c.push_places.ensures.spare, c.in_ok-make_room.ensures.entries, c.push_places.ensures.marks, c.in_ok-make_room.ensures.marks, c.note_claim.ensures, c.from.ensures)
    (placed s.scenario s.most s.store.history.entries s.store.stored.items s.net.traffic s.notes.items s.places s.room s.store.spare _ _ _ _ _ _ c.args.owner c.args.count c.self.invariant owner few
    c.in_ok-make_room.ensures.entry c.in_ok-make_room.ensures.known (omega (arith, marks, capacity)))

pub returns-clause-ok : goal.returns-clause-ok
returns-clause-ok c =
    let s = c.self.inside in
    rw (c.push_places.ensures.history, c.in_ok-make_room.ensures.entries, c.push_places.ensures.marks, c.in_ok-make_room.ensures.marks)
    (marks_placed s.scenario s.most s.store.history.entries s.store.stored.items c.args.owner c.args.count ∙ ap (λ (l : List Mark). l ++ places_for c.args.owner c.args.count) c.self.view_is)
