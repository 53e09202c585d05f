use Rattle.std.proofs.Common.{rules, ◌≤◌, ◌++◌, ◌∷◌, [], List, ap, sym, subst, ◌∙◌}
use Rattle.e3_wire.specs.declared.marks.Mark.{Mark}
use Rattle.e3_wire.specs.declared.marks.Mark.TheVariants as mark
use Rattle.e3_wire.specs.Marks.{last_owner, note_of}
use Rattle.e3_wire.proofs.Freeing.{freed, marks_freed}
use Rattle.e3_wire.proofs.shared.Shared.free.Goals as goal

pub note_freed-was-requires : goal.note_freed-was-requires
note_freed-was-requires c =
    let owner = subst (λ (l : List Mark). c.args.owner ≤ last_owner l) (sym c.self.view_is) c.requires.exists in
    let place = subst (λ (l : List Mark). 1 ≤ (note_of c.args.owner l).places) (sym c.self.view_is) c.requires.place in
    (freed _ _ _ _ _ _ _ _ _ _ _ _ c.args.owner c.self.invariant owner place).note

pub push_reserved-requires : goal.push_reserved-requires
push_reserved-requires c =
    let owner = subst (λ (l : List Mark). c.args.owner ≤ last_owner l) (sym c.self.view_is) c.requires.exists in
    let place = subst (λ (l : List Mark). 1 ≤ (note_of c.args.owner l).places) (sym c.self.view_is) c.requires.place in
    let few = (freed _ _ _ _ _ _ _ _ _ _ _ _ c.args.owner c.self.invariant owner place).mark_room in
    search (rules, few)

pub overflow_sub-self : goal.overflow_sub-self
overflow_sub-self c =
    let owner = subst (λ (l : List Mark). c.args.owner ≤ last_owner l) (sym c.self.view_is) c.requires.exists in
    let place = subst (λ (l : List Mark). 1 ≤ (note_of c.args.owner l).places) (sym c.self.view_is) c.requires.place in
    rw c.note_freed-was.ensures.was ((freed _ _ _ _ _ _ _ _ _ _ _ _ c.args.owner c.self.invariant owner place).places_are)

pub overflow_sub-self-2 : goal.overflow_sub-self-2
overflow_sub-self-2 c =
    let owner = subst (λ (l : List Mark). c.args.owner ≤ last_owner l) (sym c.self.view_is) c.requires.exists in
    let place = subst (λ (l : List Mark). 1 ≤ (note_of c.args.owner l).places) (sym c.self.view_is) c.requires.place in
    rw c.note_freed-was.ensures.was ((freed _ _ _ _ _ _ _ _ _ _ _ _ c.args.owner c.self.invariant owner place).room_is)

pub invariant_of-self : goal.invariant_of-self
invariant_of-self c =
    let owner = subst (λ (l : List Mark). c.args.owner ≤ last_owner l) (sym c.self.view_is) c.requires.exists in
    let place = subst (λ (l : List Mark). 1 ≤ (note_of c.args.owner l).places) (sym c.self.view_is) c.requires.place in
    rw (c.push_reserved.ensures.items, c.push_reserved.ensures.capacity, c.note_freed-was.ensures.notes, c.note_freed-was.ensures.was)
    ((freed _ _ _ _ _ _ _ _ _ _ _ _ c.args.owner c.self.invariant owner place).kept)

pub returns : goal.returns
returns c =
    let s = c.self.inside in
    rw c.push_reserved.ensures.items
    (marks_freed s.scenario s.most s.store.history.entries s.store.stored.items c.args.owner ∙ ap (λ (l : List Mark). l ++ mark.Freed c.args.owner ∷ []) c.self.view_is)
