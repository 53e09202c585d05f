use Rattle.std.proofs.Common.{◌++◌, ◌∷◌, [], List, ap, sym, subst, ◌∙◌, arith}
use Rattle.e3_laws.specs.local.Others.{numbered_on}
use Rattle.e3_wire.specs.declared.marks.Mark.{Mark}
use Rattle.e3_wire.specs.declared.marks.Mark.TheVariants as mark
use Rattle.e3_wire.specs.Marks.{entries_of}
use Rattle.e3_wire.specs.Wires.{MayEnterBehind}
use Rattle.e3_wire.proofs.Entering.{entered}
use Rattle.e3_wire.proofs.shared.Shared.enter.Goals as goal

pub pass_on-act-requires-clause-few : goal.pass_on-act-requires-clause-few
pass_on-act-requires-clause-few c =
    let P : List Mark → Type 0 = λ l. MayEnterBehind l c.args.entry in
    (entered _ _ _ _ _ _ _ _ _ _ _ _ c.args.entry c.self.invariant (subst P (sym c.self.view_is) c.requires)).counts

pub pass_on-act-requires-clause-room : goal.pass_on-act-requires-clause-room
pass_on-act-requires-clause-room c =
    let P : List Mark → Type 0 = λ l. MayEnterBehind l c.args.entry in
    (entered _ _ _ _ _ _ _ _ _ _ _ _ c.args.entry c.self.invariant (subst P (sym c.self.view_is) c.requires)).packets

pub push-requires-clause-entry : goal.push-requires-clause-entry
push-requires-clause-entry c =
    let P : List Mark → Type 0 = λ l. MayEnterBehind l c.args.entry in
    (entered _ _ _ _ _ _ _ _ _ _ _ _ c.args.entry c.self.invariant (subst P (sym c.self.view_is) c.requires)).known

pub push-requires-clause-mark : goal.push-requires-clause-mark
push-requires-clause-mark c =
    let P : List Mark → Type 0 = λ l. MayEnterBehind l c.args.entry in
    (entered _ _ _ _ _ _ _ _ _ _ _ _ c.args.entry c.self.invariant (subst P (sym c.self.view_is) c.requires)).mark_room

pub note_act-used-requires : goal.note_act-used-requires
note_act-used-requires c =
    let P : List Mark → Type 0 = λ l. MayEnterBehind l c.args.entry in
    (entered _ _ _ _ _ _ _ _ _ _ _ _ c.args.entry c.self.invariant (subst P (sym c.self.view_is) c.requires)).note

pub overflow_sub-self : goal.overflow_sub-self
overflow_sub-self c =
    let P : List Mark → Type 0 = λ l. MayEnterBehind l c.args.entry in
    let few = (entered _ _ _ _ _ _ _ _ _ _ _ _ c.args.entry c.self.invariant (subst P (sym c.self.view_is) c.requires)).place in
    rw (c.note_act-used.ensures.places, c.pass_on-act.ensures.act) few

pub overflow_sub-self-2 : goal.overflow_sub-self-2
overflow_sub-self-2 c =
    let P : List Mark → Type 0 = λ l. MayEnterBehind l c.args.entry in
    let few = (entered _ _ _ _ _ _ _ _ _ _ _ _ c.args.entry c.self.invariant (subst P (sym c.self.view_is) c.requires)).outs in
    rw (c.note_act-used.ensures.room, c.pass_on-act.ensures.act) few

pub invariant_of-self : goal.invariant_of-self
invariant_of-self c =
    let P : List Mark → Type 0 = λ l. MayEnterBehind l c.args.entry in
    let spare = c.push.ensures.spare in
    let known = c.push.ensures.known in
    rw (c.push.ensures.entries, c.push.ensures.marks, c.push.ensures.capacity, c.push.ensures.spare, c.pass_on-act.ensures.traffic, c.note_act-used.ensures.notes, c.note_act-used.ensures.places, c.note_act-used.ensures.room, c.pass_on-act.ensures.act)
    ((entered _ _ _ _ _ _ _ _ _ _ _ _ c.args.entry c.self.invariant (subst P (sym c.self.view_is) c.requires)).kept _ _ (omega (arith, spare, known)) c.pass_on-act.ensures.room)

pub returns : goal.returns
returns c =
    let P : List Mark → Type 0 = λ l. MayEnterBehind l c.args.entry in
    rw (c.push.ensures.entries, c.pass_on-act.ensures.act, c.push.ensures.marks)
    ((entered _ _ _ _ _ _ _ _ _ _ _ _ c.args.entry c.self.invariant (subst P (sym c.self.view_is) c.requires)).marks
    ∙ ap (λ (l : List Mark). l ++ mark.Entered (numbered_on (entries_of l) c.args.entry) ∷ []) c.self.view_is)
