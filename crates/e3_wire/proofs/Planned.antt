-- A draft that was claimed for may be entered.
use Rattle.std.proofs.Common.{◌≡◌, ◌≤◌, ◌+◌, ℕ, zero, suc, List, [], ◌∷◌, ◌++◌, append-nil, length, ◌∙◌, ap, sym, subst, arith}
use Rattle.e3_types.specs.declared.entries.Act.{Act}
use Rattle.e3_types.specs.declared.entries.Entry.{Entry}
use Rattle.e3_types.specs.declared.scenarios.Scenario.{Scenario}
use Rattle.e3_laws.specs.local.Drafts.{MayEnter}
use Rattle.e3_laws.specs.local.Others.{Allows, AreOthers}
use Rattle.e3_laws.proofs.local.Alike.{all_on}
use Rattle.e3_laws.proofs.local.Drafted.{drafts_are_allowed, drafts_stay}
use Rattle.e3_laws.proofs.local.Laws.{legal_behind}
use Rattle.e3_world.specs.Items.{inputs_of}
use Rattle.e3_world.specs.Legal.{IsLegal}
use Rattle.e3_world.specs.Packets.{is_calm, lines, outs_of, step_items}
use Rattle.e3_wire.specs.Claims.{ClaimedDraftsMayEnter}
use Rattle.e3_wire.specs.declared.marks.Mark.{Mark}
use Rattle.e3_wire.specs.declared.marks.Mark.TheVariants as mark
use Rattle.e3_wire.specs.Marks.{entries_of, note_of}
use Rattle.e3_wire.specs.declared.marks.Note.{Note}
use Rattle.e3_wire.specs.Wires.{TakesInTurn}
use Rattle.e3_wire.proofs.Foreign.{entries_append, foreign_are_others, foreign_of_sites}
use Rattle.e3_wire.proofs.Notes.{claim_promises}
use Rattle.e3_wire.proofs.Takes.{all_wait, turn_on}

some_owner : (sc : Scenario) (h : List Entry) (o : ℕ) (act : Act) → MayEnter sc h (record { owner = o; act = act }) → 1 ≤ o
some_owner sc h zero act may = absurd may
some_owner sc h (suc s) act may = omega arith

no_owner : (sc : Scenario) (h : List Entry) (e : Entry) → MayEnter sc h e → e.owner ≤ 0 → ⊥
no_owner sc h e may none = let some : 1 ≤ e.owner = some_owner sc h e.owner e.act may in omega (arith, some, none)

pub claimed_drafts_may_enter : ClaimedDraftsMayEnter
claimed_drafts_may_enter e outs [] since played foreign low calm may takes few small = absurd (no_owner _ _ e may low)
claimed_drafts_may_enter e outs (mark.Entered x ∷ rest) since played foreign low calm may takes few small = absurd (no_owner _ _ e may low)
claimed_drafts_may_enter e outs (mark.Place o n ∷ rest) since played foreign low calm may takes few small = absurd (no_owner _ _ e may low)
claimed_drafts_may_enter e outs (mark.Freed o ∷ rest) since played foreign low calm may takes few small = absurd (no_owner _ _ e may low)
claimed_drafts_may_enter e outs (mark.Start sc most ∷ rest) since played foreign low calm may takes few small = record {
  site = some_owner sc h e.owner e.act may;
  exists = low;
  allowed = (let P : List Entry → Type 0 = λ k. Allows sc k e in
      subst P (sym all) (drafts_are_allowed sc (h ++ more) e (ap (λ n. is_calm (step_items sc n)) line ∙ calm)
      (drafts_stay sc h more e played.given legal others may) (all_wait sc (h ++ more) e.owner (inputs_of e.act) legal takes_there)));
  takes = (let P : List Entry → Type 0 = λ k. TakesInTurn sc k e.owner (inputs_of e.act) in subst P (sym all) takes_there);
  place = (let P : Note → Type 0 = λ w. 1 ≤ w.places in subst P (sym note) (omega arith));
  room = (let P : Note → Type 0 = λ w. length (outs_of e.act) ≤ w.room in subst P (sym note) (omega (arith, few)));
  few = omega (arith, few, small);
}
  where
    M : List Mark
    M = mark.Start sc most ∷ rest

    h : List Entry
    h = entries_of M

    more : List Entry
    more = entries_of since

    parts : entries_of (M ++ since) ≡ h ++ more
    parts = entries_append M since

    all : entries_of ((M ++ since) ++ mark.Place e.owner outs ∷ []) ≡ h ++ more
    all = entries_append (M ++ since) (mark.Place e.owner outs ∷ []) ∙ append-nil (entries_of (M ++ since)) ∙ parts

    legal : IsLegal sc (h ++ more)
    legal = subst (IsLegal sc) parts played.legal

    others : AreOthers e.owner more
    others = foreign_are_others sc e.owner M since played.legal foreign

    takes_there : TakesInTurn sc (h ++ more) e.owner (inputs_of e.act)
    takes_there = turn_on sc h more e.owner (inputs_of e.act) legal others (foreign_of_sites e.owner since foreign) takes

    line : lines (h ++ more) ≡ lines h
    line = (all_on sc e.owner h more played.given (legal_behind sc [] h more legal) others).line

    note : note_of e.owner ((M ++ since) ++ mark.Place e.owner outs ∷ []) ≡ record { places = suc (note_of e.owner (M ++ since)).places; room = (note_of e.owner (M ++ since)).room + outs }
    note = claim_promises e.owner outs (M ++ since)
