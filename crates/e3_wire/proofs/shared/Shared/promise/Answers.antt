use Rattle.std.proofs.Common.{rules, ◌≤◌, ◌<◌, ◌+◌, ◌++◌, ◌∷◌, [], ℕ, List, ap, sym, subst, ◌∙◌, arith}
use Rattle.e3_wire.specs.declared.marks.Mark.{Mark}
use Rattle.e3_wire.specs.declared.marks.Mark.TheVariants as mark
use Rattle.e3_wire.specs.Marks.{last_owner, most_of, used_of}
use Rattle.e3_wire.proofs.Claiming.{can_be_noted, claimed, few_are, marks_claimed, room_fits}
use Rattle.e3_wire.proofs.shared.Shared.promise.Goals as goal

pub overflow_add-room : goal.overflow_add-room
overflow_add-room c =
    let left = subst (λ (l : List Mark). used_of l < most_of l) (sym c.self.view_is) c.requires.few in
    let fits = room_fits _ _ _ _ _ _ _ _ _ _ _ _ c.args.outs c.self.invariant left (omega (arith, c.ranges.outs.fits)) in
    search (rules, fits)

pub make_room-requires-clause-few : goal.make_room-requires-clause-few
make_room-requires-clause-few c = few_are _ _ _ _ _ _ _ _ _ _ _ _ c.self.invariant

pub note_claim-requires-clause-owner : goal.note_claim-requires-clause-owner
note_claim-requires-clause-owner c =
    let owner = subst (λ (l : List Mark). c.args.owner ≤ last_owner l) (sym c.self.view_is) c.requires.owner in
    let left = subst (λ (l : List Mark). used_of l < most_of l) (sym c.self.view_is) c.requires.few in
    (can_be_noted _ _ _ _ _ _ _ _ _ _ _ _ c.args.owner 1 c.args.outs c.self.invariant owner (omega arith) (room_fits _ _ _ _ _ _ _ _ _ _ _ _ c.args.outs c.self.invariant left (omega (arith, c.ranges.outs.fits)))).note

pub note_claim-requires-clause-places : goal.note_claim-requires-clause-places
note_claim-requires-clause-places c =
    let owner = subst (λ (l : List Mark). c.args.owner ≤ last_owner l) (sym c.self.view_is) c.requires.owner in
    let left = subst (λ (l : List Mark). used_of l < most_of l) (sym c.self.view_is) c.requires.few in
    (can_be_noted _ _ _ _ _ _ _ _ _ _ _ _ c.args.owner 1 c.args.outs c.self.invariant owner (omega arith) (room_fits _ _ _ _ _ _ _ _ _ _ _ _ c.args.outs c.self.invariant left (omega (arith, c.ranges.outs.fits)))).places

pub note_claim-requires-clause-room : goal.note_claim-requires-clause-room
note_claim-requires-clause-room c =
    let owner = subst (λ (l : List Mark). c.args.owner ≤ last_owner l) (sym c.self.view_is) c.requires.owner in
    let left = subst (λ (l : List Mark). used_of l < most_of l) (sym c.self.view_is) c.requires.few in
    (can_be_noted _ _ _ _ _ _ _ _ _ _ _ _ c.args.owner 1 c.args.outs c.self.invariant owner (omega arith) (room_fits _ _ _ _ _ _ _ _ _ _ _ _ c.args.outs c.self.invariant left (omega (arith, c.ranges.outs.fits)))).room

pub invariant_of-self-2 : goal.invariant_of-self-2
invariant_of-self-2 c =
    let s = c.self.inside in
    let owner = subst (λ (l : List Mark). c.args.owner ≤ last_owner l) (sym c.self.view_is) c.requires.owner in
    let few = subst (λ (l : List Mark). used_of l < most_of l) (sym c.self.view_is) c.requires.few in
    rw (c.in_ok-make_room.ensures.entries, c.push_reserved.ensures.items, c.in_ok-make_room.ensures.marks, c.in_ok-reserve.ensures.traffic, c.note_claim.ensures)
    (claimed s.scenario s.most s.store.history.entries s.store.stored.items s.net.traffic s.notes.items s.places s.room s.store.spare _ _ _ _ _ _ _ c.args.owner c.args.outs (s.room + c.from.result) c.self.invariant owner few
    (ap (λ (n : ℕ). s.room + n) c.from.ensures) (search rules) (search rules) (search rules) (search rules) (omega (arith, c.ranges.outs.fits)))

pub returns-clause-ok : goal.returns-clause-ok
returns-clause-ok c =
    let s = c.self.inside in
    rw (c.in_ok-make_room.ensures.entries, c.push_reserved.ensures.items, c.in_ok-make_room.ensures.marks)
    (marks_claimed s.scenario s.most s.store.history.entries s.store.stored.items c.args.owner c.args.outs ∙ ap (λ (l : List Mark). l ++ mark.Place c.args.owner c.args.outs ∷ []) c.self.view_is)
