-- An entry that was claimed for may be entered.
use Rattle.std.proofs.Common.{◌≡◌, ◌≤◌, true, false, List, [], ◌∷◌, ◌++◌, append-nil, inl, length, ◌∙◌, sym, subst, arith}
use Rattle.e3_types.specs.declared.entries.Entry.{Entry}
use Rattle.e3_types.specs.declared.entries.Input.TheVariants as input
use Rattle.e3_types.specs.declared.scenarios.Scenario.{Scenario}
use Rattle.e3_laws.specs.local.Others.{Allows, AreOthers}
use Rattle.e3_laws.proofs.local.Laws.{local}
use Rattle.e3_laws.proofs.local.Least.{least_is_pending}
use Rattle.e3_world.specs.Items.{inputs_of}
use Rattle.e3_world.specs.Legal.{IsLegal}
use Rattle.e3_world.specs.Packets.{outs_of}
use Rattle.e3_wire.specs.Claims.{ClaimedEntriesMayEnter, ClaimedEntriesStay, TakenIsDue}
use Rattle.e3_wire.specs.declared.marks.Mark.{Mark}
use Rattle.e3_wire.specs.declared.marks.Mark.TheVariants as mark
use Rattle.e3_wire.specs.Marks.{entries_of, scenario_of}
use Rattle.e3_wire.specs.declared.marks.Note.{Note}
use Rattle.e3_wire.specs.Wires.{TakesInTurn}
use Rattle.e3_wire.proofs.Foreign.{entries_append, foreign_are_others, foreign_of_sites}
use Rattle.e3_wire.proofs.Notes.{claim_promises, scenario_stays}
use Rattle.e3_wire.proofs.Takes.{all_wait, turn_on}

pub claimed_entries_may_enter : ClaimedEntriesMayEnter
claimed_entries_may_enter e outs marks played site exists may takes few small =
    let keys = (scenario_stays marks (mark.Place e.owner outs ∷ []) played).0 in
    let all : entries_of (marks ++ mark.Place e.owner outs ∷ []) ≡ entries_of marks = entries_append marks (mark.Place e.owner outs ∷ []) ∙ append-nil (entries_of marks) in
    let note = claim_promises e.owner outs marks in
    record {
      site = site;
      exists = (let P : Scenario → Type 0 = λ sc. e.owner ≤ length sc.weights in subst P (sym keys) exists);
      allowed = (let P : Scenario → Type 0 = λ sc. Allows sc (entries_of (marks ++ mark.Place e.owner outs ∷ [])) e in
          let Q : List Entry → Type 0 = λ h. Allows (scenario_of marks) h e in
          subst P (sym keys) (subst Q (sym all) may));
      takes = (let P : Scenario → Type 0 = λ sc. TakesInTurn sc (entries_of (marks ++ mark.Place e.owner outs ∷ [])) e.owner (inputs_of e.act) in
          let Q : List Entry → Type 0 = λ h. TakesInTurn (scenario_of marks) h e.owner (inputs_of e.act) in
          subst P (sym keys) (subst Q (sym all) takes));
      place = (let P : Note → Type 0 = λ w. 1 ≤ w.places in subst P (sym note) (omega arith));
      room = (let P : Note → Type 0 = λ w. length (outs_of e.act) ≤ w.room in subst P (sym note) (omega (arith, few)));
      few = omega (arith, few, small);
    }

no_site : (e : Entry) → 1 ≤ e.owner → e.owner ≤ 0 → ⊥
no_site e some none = omega (arith, some, none)

pub claimed_entries_stay : ClaimedEntriesStay
claimed_entries_stay e outs [] since played foreign site exists calm may takes few small = absurd (no_site e site exists)
claimed_entries_stay e outs (mark.Entered x ∷ rest) since played foreign site exists calm may takes few small = absurd (no_site e site exists)
claimed_entries_stay e outs (mark.Place o n ∷ rest) since played foreign site exists calm may takes few small = absurd (no_site e site exists)
claimed_entries_stay e outs (mark.Freed o ∷ rest) since played foreign site exists calm may takes few small = absurd (no_site e site exists)
claimed_entries_stay e outs (mark.Start sc most ∷ rest) since played foreign site exists calm may takes few small =
    claimed_entries_may_enter e outs (M ++ since) played site exists
    (let P : List Entry → Type 0 = λ k. Allows sc k e in
    subst P (sym parts) (local sc h more e played.given legal site calm others may (all_wait sc (h ++ more) e.owner (inputs_of e.act) legal there)))
    (let P : List Entry → Type 0 = λ k. TakesInTurn sc k e.owner (inputs_of e.act) in subst P (sym parts) there) few small
  where
    M : List Mark
    M = mark.Start sc most ∷ rest

    h : List Entry
    h = entries_of M

    more : List Entry
    more = entries_of since

    parts : entries_of (M ++ since) ≡ h ++ more
    parts = entries_append M since

    legal : IsLegal sc (h ++ more)
    legal = subst (IsLegal sc) parts played.legal

    others : AreOthers e.owner more
    others = foreign_are_others sc e.owner M since played.legal foreign

    there : TakesInTurn sc (h ++ more) e.owner (inputs_of e.act)
    there = turn_on sc h more e.owner (inputs_of e.act) legal others (foreign_of_sites e.owner since foreign) takes

pub taken_is_due : TakenIsDue
taken_is_due sc h site (input.Deliver p) restless may least = record {
  to = may.0;
  is_pending = (least_is_pending sc h site p least).0;
  behind_items = may.1;
  in_order = λ calm. absurd (let both : true ≡ false = sym calm ∙ restless in cc);
}
taken_is_due sc h site (input.Begin sites) restless may least = may
taken_is_due sc h site (input.Do t op) restless may least = may
taken_is_due sc h site (input.Commit t) restless may least = may
taken_is_due sc h site (input.Cancel t) restless may least = may
taken_is_due sc h site (input.Expire t) restless may least = may
taken_is_due sc h site (input.Elect t group) restless may least = inl may
