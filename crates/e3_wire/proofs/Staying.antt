-- What may be entered behind what a pass has seen may be entered behind what others put since.
use Rattle.std.proofs.Common.{◌≡◌, ◌≤◌, ◌<◌, ℕ, Bool, true, false, List, [], ◌∷◌, ◌++◌, append-nil, length, ◌∙◌, ap, sym, subst, refl, arith}
use Rattle.std.specs.Prelude.{All}
use Rattle.std.proofs.lemmas.List.Elements.{All-head, All-tail}
use Rattle.e3_turn.specs.Chronicles.{count_of, ExtendsByOthers, IsForeign}
use Rattle.e3_types.specs.declared.entries.Entry.{Entry}
use Rattle.e3_laws.specs.local.Others.{Allows, AreOthers}
use Rattle.e3_laws.proofs.local.Laws.{local}
use Rattle.e3_world.specs.Items.{inputs_of}
use Rattle.e3_world.specs.Legal.{IsLegal}
use Rattle.e3_world.specs.Packets.{is_calm, outs_of, present_items}
use Rattle.e3_wire.specs.Claims.{AreOthersMarks, LeaveASite}
use Rattle.e3_wire.specs.declared.marks.Mark.{Mark}
use Rattle.e3_wire.specs.declared.marks.Mark.TheVariants as mark
use Rattle.e3_wire.specs.Marks.{AreForeign, belongs, entries_of, note_of, scenario_of}
use Rattle.e3_wire.specs.declared.marks.Note.{Note}
use Rattle.e3_wire.specs.Wires.{IsPlayed, MayEnterBehind, TakesInTurn}
use Rattle.e3_wire.proofs.Foreign.{entries_append, foreign_are_others, foreign_of_sites, notes_stay}
use Rattle.e3_wire.proofs.Takes.{all_wait, turn_on}

-- marks of others are foreign to each owner of the pass
foreign_one : (last : ℕ) (owners : List ℕ) (o : ℕ) (m : Mark) → 0 < count_of o owners → IsForeign belongs last owners m → belongs m o ≡ false
foreign_one last owners o m has is = by (belongs m o) refl
  where
    by : (b : Bool) → belongs m o ≡ b → belongs m o ≡ false
    by true own = absurd (let none : count_of o owners ≡ 0 = is.1 o own in omega (arith, has, none))
    by false apart = apart

pub foreign_all : (last : ℕ) (owners : List ℕ) (o : ℕ) (more : List Mark) → 0 < count_of o owners → All (IsForeign belongs last owners) more → AreForeign o more
foreign_all last owners o [] has all = tt
foreign_all last owners o (m ∷ more) has all =
    (foreign_one last owners o m has (All-head (IsForeign belongs last owners) m more all), foreign_all last owners o more has (All-tail (IsForeign belongs last owners) m more all))

pub are_others_marks : AreOthersMarks
are_others_marks p o marks has grew = (grew.0, grew.1, foreign_all p.me.0.last p.me.0.owners o grew.0 has grew.2)

pub leave_a_site : LeaveASite
leave_a_site sc o seen since legal foreign =
    (foreign_are_others sc o seen since legal foreign, foreign_of_sites o since foreign, notes_stay o seen since foreign)

-- who owns all has seen all
pub nothing_since : (last : ℕ) (owners : List ℕ) (more : List Mark) → ((o : ℕ) → o ≤ last → 0 < count_of o owners) → All (IsForeign belongs last owners) more → more ≡ []
nothing_since last owners [] all foreign = refl
nothing_since last owners (m ∷ more) all foreign =
    let one = All-head (IsForeign belongs last owners) m more foreign in
    let o : ℕ = one.0.0 in
    let none : count_of o owners ≡ 0 = one.1 o one.0.2 in
    let some : 0 < count_of o owners = all o one.0.1 in
    absurd (omega (arith, none, some))

pub seen_all : (last : ℕ) (owners : List ℕ) (seen chronicle : List Mark) → ((o : ℕ) → o ≤ last → 0 < count_of o owners) → ExtendsByOthers belongs last owners seen chronicle → chronicle ≡ seen
seen_all last owners seen chronicle all grew = grew.1 ∙ ap (λ l. seen ++ l) (nothing_since last owners grew.0 all grew.2) ∙ append-nil seen

no_site : (e : Entry) → 1 ≤ e.owner → e.owner ≤ 0 → ⊥
no_site e some none = omega (arith, some, none)

enter_on : (seen since : List Mark) (e : Entry) → IsPlayed (seen ++ since) → AreForeign e.owner since →
    is_calm (present_items (scenario_of seen) (entries_of seen)) ≡ false → MayEnterBehind seen e → MayEnterBehind (seen ++ since) e
enter_on [] since e played foreign calm may = absurd (no_site e may.site may.exists)
enter_on (mark.Entered x ∷ rest) since e played foreign calm may = absurd (no_site e may.site may.exists)
enter_on (mark.Place o n ∷ rest) since e played foreign calm may = absurd (no_site e may.site may.exists)
enter_on (mark.Freed o ∷ rest) since e played foreign calm may = absurd (no_site e may.site may.exists)
enter_on (mark.Start sc most ∷ rest) since e played foreign calm may = record {
  site = may.site;
  exists = may.exists;
  allowed = (let P : List Entry → Type 0 = λ k. Allows sc k e in
      subst P (sym parts) (local sc h more e played.given legal may.site calm others may.allowed (all_wait sc (h ++ more) e.owner (inputs_of e.act) legal takes)));
  takes = (let P : List Entry → Type 0 = λ k. TakesInTurn sc k e.owner (inputs_of e.act) in subst P (sym parts) takes);
  place = (let P : Note → Type 0 = λ w. 1 ≤ w.places in subst P (sym note) may.place);
  room = (let P : Note → Type 0 = λ w. length (outs_of e.act) ≤ w.room in subst P (sym note) may.room);
  few = may.few;
}
  where
    M : List Mark
    M = mark.Start sc most ∷ rest

    h : List Entry
    h = entries_of M

    more : List Entry
    more = entries_of since

    parts : entries_of (M ++ since) ≡ h ++ more
    parts = entries_append M since

    legal : IsLegal sc (h ++ more)
    legal = subst (IsLegal sc) parts played.legal

    others : AreOthers e.owner more
    others = foreign_are_others sc e.owner M since played.legal foreign

    takes : TakesInTurn sc (h ++ more) e.owner (inputs_of e.act)
    takes = turn_on sc h more e.owner (inputs_of e.act) legal others (foreign_of_sites e.owner since foreign) may.takes

    note : note_of e.owner (M ++ since) ≡ note_of e.owner M
    note = notes_stay e.owner M since foreign

-- An entry of a site may be entered behind the whole chronicle.
pub may_enter : (last : ℕ) (owners : List ℕ) (seen chronicle : List Mark) (e : Entry) → ExtendsByOthers belongs last owners seen chronicle → IsPlayed chronicle → 0 < count_of e.owner owners →
    (is_calm (present_items (scenario_of seen) (entries_of seen)) ≡ true → (o : ℕ) → o ≤ last → 0 < count_of o owners) → MayEnterBehind seen e → MayEnterBehind chronicle e
may_enter last owners seen chronicle e grew played owns alone may = by (is_calm (present_items (scenario_of seen) (entries_of seen))) refl
  where
    by : (b : Bool) → is_calm (present_items (scenario_of seen) (entries_of seen)) ≡ b → MayEnterBehind chronicle e
    by true calm =
        let P : List Mark → Type 0 = λ l. MayEnterBehind l e in
        subst P (sym (seen_all last owners seen chronicle (alone calm) grew)) may
    by false lively =
        let P : List Mark → Type 0 = λ l. MayEnterBehind l e in
        let Q : List Mark → Type 0 = λ l. IsPlayed l in
        subst P (sym grew.1) (enter_on seen grew.0 e (subst Q grew.1 played) (foreign_all last owners e.owner grew.0 owns grew.2) lively may)
