-- One more entry of a site.
use Rattle.std.proofs.Common.{◌≡◌, ◌==◌, ◌+◌, ◌-◌, ◌^◌, ◌<◌, ◌≤◌, ℕ, suc, false, List, [], ◌∷◌, ◌++◌, length, set, ◌∙◌, ap, sym, subst, refl, arith, length-append}
use Rattle.std.specs.Prelude.{slice_index_or}
use Rattle.e3_types.specs.declared.entries.Act.{Act}
use Rattle.e3_types.specs.declared.entries.Act.TheVariants.{Step, Fall, Rise, RiseFall, Miss, Cut, Drop, Parts, Line}
use Rattle.e3_types.specs.declared.entries.Entry.{Entry}
use Rattle.e3_types.specs.declared.entries.Input.{Input}
use Rattle.e3_types.specs.declared.messages.Packet.{Packet}
use Rattle.e3_types.specs.declared.scenarios.Scenario.{Scenario}
use Rattle.e3_world.specs.Items.{inputs_of}
use Rattle.e3_world.specs.Legal.{IsLegal, numbered}
use Rattle.e3_world.specs.Packets.{outs_of, sent}
use Rattle.e3_world.proofs.Pushes.{legal_push}
use Rattle.e3_laws.specs.local.Others.{numbered_on}
use Rattle.e3_net.proofs.Pushing.{numbered_length as numbered_long}
use Rattle.e3_net.proofs.Taking.{behind_all_rest}
use Rattle.e3_net.specs.Stands.{NetStands, behind_inputs}
use Rattle.e3_net.specs.Traffic.{Traffic, sends, sends_all}
use Rattle.e3_wire.specs.declared.marks.Mark.{Mark}
use Rattle.e3_wire.specs.declared.marks.Mark.TheVariants as mark
use Rattle.e3_wire.specs.declared.marks.Note.{Note}
use Rattle.e3_wire.specs.declared.marks.Stored.{Stored}
use Rattle.e3_wire.specs.declared.marks.Stored.TheVariants as stored
use Rattle.e3_wire.specs.Marks.{entries_of, note_by, note_of, nothing, promised, rooms, used_by}
use Rattle.e3_wire.specs.Stores.{AreNotes, IsKept, count_stored, marks_from, marks_of}
use Rattle.e3_wire.specs.Wires.{MayEnterBehind, WireStands, act_on}
use Rattle.e3_wire.proofs.Foreign.{entries_append}
use Rattle.e3_wire.proofs.Noting.{noted, notes_push}
use Rattle.e3_wire.proofs.Rooms.{few_append}
use Rattle.e3_wire.proofs.Sums.{changes, itself, one_of_all}
use Rattle.e3_wire.proofs.Takes.{net_on, used}

-- what is stored of one more entry
pub count_entry : (ms : List Stored) → count_stored (ms ++ stored.Entered ∷ []) ≡ suc (count_stored ms)
count_entry [] = refl
count_entry (stored.Entered ∷ ms) = ap suc (count_entry ms)
count_entry (stored.Place o n ∷ ms) = count_entry ms
count_entry (stored.Freed o ∷ ms) = count_entry ms

pub marks_entry : (es : List Entry) (ms : List Stored) (e : Entry) → length es ≡ count_stored ms →
    marks_of (es ++ e ∷ []) (ms ++ stored.Entered ∷ []) ≡ marks_of es ms ++ mark.Entered e ∷ []
marks_entry [] [] e whole = refl
marks_entry (x ∷ es) [] e whole = absurd (omega arith)
marks_entry [] (stored.Entered ∷ ms) e whole = absurd (omega arith)
marks_entry (x ∷ es) (stored.Entered ∷ ms) e whole = ap (λ l. mark.Entered x ∷ l) (marks_entry es ms e (omega arith))
marks_entry es (stored.Place o n ∷ ms) e whole = ap (λ l. mark.Place o n ∷ l) (marks_entry es ms e whole)
marks_entry es (stored.Freed o ∷ ms) e whole = ap (λ l. mark.Freed o ∷ l) (marks_entry es ms e whole)

pub entries_stored : (es : List Entry) (ms : List Stored) → length es ≡ count_stored ms → entries_of (marks_of es ms) ≡ es
entries_stored [] [] whole = refl
entries_stored (x ∷ es) [] whole = absurd (omega arith)
entries_stored [] (stored.Entered ∷ ms) whole = absurd (omega arith)
entries_stored (x ∷ es) (stored.Entered ∷ ms) whole = ap (λ l. x ∷ l) (entries_stored es ms (omega arith))
entries_stored es (stored.Place o n ∷ ms) whole = entries_stored es ms whole
entries_stored es (stored.Freed o ∷ ms) whole = entries_stored es ms whole

sent_all : (net : Traffic) (outs : List Packet) → (sends_all net outs).sent ≡ net.sent + length outs
sent_all net [] = omega arith
sent_all net (p ∷ ps) = let rest = sent_all (sends net p.«from» p.to p.msg) ps in rest ∙ (let plain : suc net.sent + length ps ≡ net.sent + suc (length ps) = omega arith in plain)

-- the room that an entry uses at least
outs_on : (h : List Entry) (o : ℕ) (act : Act) (w : Note) → length (outs_of act) ≤ w.room →
    (used_by w (numbered_on h (record { owner = o; act = act })).act).room + length (outs_of act) ≤ w.room
outs_on h o (Step i records outs events) w few = let same = numbered_long (suc (length (sent h))) outs in omega (arith, few, same)
outs_on h o (Fall inputs records why) w few = omega arith
outs_on h o (Rise kept inc) w few = omega arith
outs_on h o (RiseFall kept inc why) w few = omega arith
outs_on h o Miss w few = omega arith
outs_on h o Cut w few = omega arith
outs_on h o (Drop packet) w few = omega arith
outs_on h o (Parts parts) w few = omega arith
outs_on h o (Line number) w few = omega arith

on_is : (h : List Entry) (o : ℕ) (act : Act) (n : ℕ) → n ≡ length (sent h) → record { owner = o; act = act_on (suc n) act } ≡ numbered_on h (record { owner = o; act = act })
on_is h o (Step i records outs events) n is = ap (λ k. record { owner = o; act = Step i records (numbered (suc k) outs) events }) is
on_is h o (Fall inputs records why) n is = refl
on_is h o (Rise kept inc) n is = refl
on_is h o (RiseFall kept inc why) n is = refl
on_is h o Miss n is = refl
on_is h o Cut n is = refl
on_is h o (Drop packet) n is = refl
on_is h o (Parts parts) n is = refl
on_is h o (Line number) n is = refl

-- what is taken changes no count of what was sent
sent_taken : (net : Traffic) (inputs : List Input) → (behind_inputs net inputs).sent ≡ net.sent
sent_taken net inputs = ap (λ (t : Traffic). t.sent) (behind_all_rest net inputs)

-- how much it uses of a note
abbrev pub used_places : Note → Act → ℕ
used_places w act = w.places - (used_by w act).places

abbrev pub used_room : Note → Act → ℕ
used_room w act = w.room - (used_by w act).room

-- what an entry of a site does to the sums
pub record Uses (marks : List Mark) (last : ℕ) (e y : Entry) : Type 0 where
  pub place : 1 ≤ used_places (note_of e.owner marks) y.act
  pub places : promised last (marks ++ mark.Entered y ∷ []) + used_places (note_of e.owner marks) y.act ≡ promised last marks
  pub outs : length (outs_of e.act) ≤ used_room (note_of e.owner marks) y.act
  pub room : rooms last (marks ++ mark.Entered y ∷ []) + used_room (note_of e.owner marks) y.act ≡ rooms last marks

uses : (sc : Scenario) (most : ℕ) (rest : List Mark) (e : Entry) → MayEnterBehind (mark.Start sc most ∷ rest) e →
    Uses (mark.Start sc most ∷ rest) (length sc.weights) e (numbered_on (entries_of (mark.Start sc most ∷ rest)) e)
uses sc most rest e may = record {
  place = omega (arith, places_less);
  places = omega (arith, moved_places, places_less, own_place);
  outs = omega (arith, room_less);
  room = omega (arith, moved_room, room_less, own_room);
}
  where
    M : List Mark
    M = mark.Start sc most ∷ rest

    last : ℕ
    last = length sc.weights

    y : Entry
    y = numbered_on (entries_of M) e

    own_room : (note_of e.owner M).room ≤ rooms last M
    own_room = one_of_all (λ o. (note_of o M).room) e.owner last may.exists

    own_place : (note_of e.owner M).places ≤ promised last M
    own_place = one_of_all (λ o. (note_of o M).places) e.owner last may.exists

    apart_stays : (u : ℕ) (w : Note) → (e.owner == u) ≡ false → note_by u w (mark.Entered y) ≡ w
    apart_stays u w apart = rw apart refl

    after : note_by e.owner (note_of e.owner M) (mark.Entered y) ≡ used_by (note_of e.owner M) y.act
    after = rw (itself e.owner) refl

    moved_places : promised last (M ++ mark.Entered y ∷ []) + (note_of e.owner M).places ≡ promised last M + (used_by (note_of e.owner M) y.act).places
    moved_places = changes (λ w. w.places) M (mark.Entered y) e.owner last may.exists apart_stays ∙ ap (λ w. promised last M + w.places) after

    places_less : suc ((used_by (note_of e.owner M) y.act).places) ≤ (note_of e.owner M).places
    places_less = used sc (entries_of M) e.owner e.act (note_of e.owner M) may.site may.allowed may.place

    moved_room : rooms last (M ++ mark.Entered y ∷ []) + (note_of e.owner M).room ≡ rooms last M + (used_by (note_of e.owner M) y.act).room
    moved_room = changes (λ w. w.room) M (mark.Entered y) e.owner last may.exists apart_stays ∙ ap (λ w. rooms last M + w.room) after

    room_less : (used_by (note_of e.owner M) y.act).room + length (outs_of e.act) ≤ (note_of e.owner M).room
    room_less = outs_on (entries_of M) e.owner e.act (note_of e.owner M) may.room

-- what is shared stands behind it
entry_keeps : (sc : Scenario) (most : ℕ) (rest : List Mark) (net : Traffic) (e : Entry) → WireStands (mark.Start sc most ∷ rest) net → MayEnterBehind (mark.Start sc most ∷ rest) e →
    WireStands ((mark.Start sc most ∷ rest) ++ mark.Entered (numbered_on (entries_of (mark.Start sc most ∷ rest)) e) ∷ []) (sends_all (behind_inputs net (inputs_of e.act)) (outs_of e.act))
entry_keeps sc most rest net e was may = record {
  played = record {
    given = was.played.given;
    legal = subst (IsLegal sc) (sym same) (legal_push sc h y was.played.legal may.allowed);
    within = within;
    few = was.played.few;
    promises = few_append M (mark.Entered y ∷ []) was.played.promises (tt, tt);
  };
  net = subst (λ k. NetStands sc k (sends_all (behind_inputs net (inputs_of e.act)) (outs_of e.act))) (sym same) (net_on sc h net e.owner e.act may.site was.net may.allowed may.takes);
}
  where
    M : List Mark
    M = mark.Start sc most ∷ rest

    h : List Entry
    h = entries_of M

    y : Entry
    y = numbered_on h e

    same : entries_of (M ++ mark.Entered y ∷ []) ≡ h ++ y ∷ []
    same = entries_append M (mark.Entered y ∷ [])

    within : length (entries_of (M ++ mark.Entered y ∷ [])) + promised (length sc.weights) (M ++ mark.Entered y ∷ []) ≤ most
    within =
        let long : length (entries_of (M ++ mark.Entered y ∷ [])) ≡ length h + 1 = ap length same ∙ length-append h (y ∷ []) in
        let was_within : length h + promised (length sc.weights) M ≤ most = was.played.within in
        let less = (uses sc most rest e may).places in
        let some = (uses sc most rest e may).place in
        omega (arith, less, some, long, was_within)

-- the act as it is entered
abbrev pub act_in : Traffic → Entry → Act
act_in net e = act_on (suc net.sent) e.act

-- what is noted of its owner
abbrev pub note_in : List Note → Entry → Note
note_in notes e = slice_index_or notes e.owner nothing

-- what is known before the entry is made, and what holds behind it
pub record Entered (sc : Scenario) (most : ℕ) (es : List Entry) (ms : List Stored) (net : Traffic) (notes : List Note) (places room spare hr sr nr : ℕ) (e : Entry) : Type 0 where
  pub counts : net.sent + length (outs_of e.act) < 2 ^ 64
  pub packets : length (outs_of e.act) ≤ nr
  pub entry : 1 ≤ hr
  pub known : 1 ≤ spare
  pub mark_room : length ms < sr
  pub note : e.owner < length notes
  pub place : used_places (note_in notes e) (act_in net e) ≤ places
  pub outs : used_room (note_in notes e) (act_in net e) ≤ room
  pub marks : marks_from sc most (es ++ record { owner = e.owner; act = act_in net e } ∷ []) (ms ++ stored.Entered ∷ [])
      ≡ marks_from sc most es ms ++ mark.Entered (numbered_on (entries_of (marks_from sc most es ms)) e) ∷ []
  pub kept : (hr2 nr2 : ℕ) → spare - 1 ≤ hr2 → nr ≤ nr2 + length (outs_of e.act) →
      IsKept sc most (es ++ record { owner = e.owner; act = act_in net e } ∷ []) (ms ++ stored.Entered ∷ [])
      (sends_all (behind_inputs net (inputs_of e.act)) (outs_of e.act)) (set notes e.owner (used_by (note_in notes e) (act_in net e)))
      (places - used_places (note_in notes e) (act_in net e)) (room - used_room (note_in notes e) (act_in net e)) (spare - 1) hr2 sr nr2

pub entered : (sc : Scenario) (most : ℕ) (es : List Entry) (ms : List Stored) (net : Traffic) (notes : List Note) (places room spare hr sr nr : ℕ) (e : Entry) →
    IsKept sc most es ms net notes places room spare hr sr nr → MayEnterBehind (marks_from sc most es ms) e → Entered sc most es ms net notes places room spare hr sr nr e
entered sc most es ms net notes places room spare hr sr nr e was may = record {
  counts = counts;
  packets = omega (arith, some_room, less_room, was.room_is, was.for_packets);
  entry = omega (arith, some_place, less_places, was.places_are, was.for_entries, was.spare_is);
  known = omega (arith, some_place, less_places, was.places_are, was.for_entries);
  mark_room = omega (arith, some_place, less_places, was.places_are, was.for_marks);
  note = noted last e.owner M notes may.exists was.notes_are;
  place = omega (arith, less_places, was.places_are);
  outs = omega (arith, less_room, was.room_is);
  marks = marks_are;
  kept = λ hr2 nr2 left packets. record {
    stands = stands;
    whole = length-append es (x ∷ []) ∙ (let one : length es + 1 ≡ suc (count_stored ms) = (let w = was.whole in omega (arith, w)) in one) ∙ sym (count_entry ms);
    notes_are = rw marks_are all_noted;
    places_are = rw marks_are (let f = was.places_are in omega (arith, less_places, f));
    room_is = rw marks_are (let f = was.room_is in omega (arith, less_room, f));
    for_entries = (let f = was.for_entries in let g = was.places_are in omega (arith, f, g, some_place, less_places));
    spare_is = left;
    for_marks = (let f = was.for_marks in let g = was.places_are in let long = length-append ms (stored.Entered ∷ []) in omega (arith, f, g, long, some_place, less_places));
    for_packets = (let f = was.for_packets in let g = was.room_is in omega (arith, f, g, packets, some_room, less_room));
    counted = (let f = was.counted in let few = may.few in let long = length-append es (x ∷ []) in let more = sent_all (behind_inputs net (inputs_of e.act)) (outs_of e.act) in let same = sent_taken net (inputs_of e.act) in
        omega (arith, f, few, long, more, same));
  };
}
  where
    M : List Mark
    M = marks_from sc most es ms

    last : ℕ
    last = length sc.weights

    x : Entry
    x = record { owner = e.owner; act = act_on (suc net.sent) e.act }

    y : Entry
    y = numbered_on (entries_of M) e

    x_is : x ≡ y
    x_is = on_is (entries_of M) e.owner e.act net.sent was.stands.net.count

    marks_are : marks_from sc most (es ++ x ∷ []) (ms ++ stored.Entered ∷ []) ≡ M ++ mark.Entered y ∷ []
    marks_are = ap (λ l. mark.Start sc most ∷ l) (marks_entry es ms x was.whole ∙ ap (λ z. marks_of es ms ++ mark.Entered z ∷ []) x_is)

    does : Uses M last e y
    does = uses sc most (marks_of es ms) e may

    -- what is noted, and used of it
    note_is : note_in notes e ≡ note_of e.owner M
    note_is = was.notes_are.each e.owner may.exists

    same_places : used_places (note_in notes e) x.act ≡ used_places (note_of e.owner M) y.act
    same_places = ap (λ (w : Note). used_places w x.act) note_is ∙ ap (λ (z : Entry). used_places (note_of e.owner M) z.act) x_is

    same_room : used_room (note_in notes e) x.act ≡ used_room (note_of e.owner M) y.act
    same_room = ap (λ (w : Note). used_room w x.act) note_is ∙ ap (λ (z : Entry). used_room (note_of e.owner M) z.act) x_is

    some_place : 1 ≤ used_places (note_in notes e) x.act
    some_place = let one = does.place in omega (arith, one, same_places)

    less_places : promised last (M ++ mark.Entered y ∷ []) + used_places (note_in notes e) x.act ≡ promised last M
    less_places = let all = does.places in omega (arith, all, same_places)

    some_room : length (outs_of e.act) ≤ used_room (note_in notes e) x.act
    some_room = let o = does.outs in omega (arith, o, same_room)

    less_room : rooms last (M ++ mark.Entered y ∷ []) + used_room (note_in notes e) x.act ≡ rooms last M
    less_room = let r = does.room in omega (arith, r, same_room)

    counts : net.sent + length (outs_of e.act) < 2 ^ 64
    counts =
        let f = was.counted in
        let few = may.few in
        let long : length (entries_of M) ≡ length es = ap length (entries_stored es ms was.whole) in
        let within : length (entries_of M) + promised last M ≤ most = was.stands.played.within in
        let most_few : most ≤ 2000000 = was.stands.played.few in
        omega (arith, f, few, long, within, most_few, some_place, less_places)

    all_noted : AreNotes last (M ++ mark.Entered y ∷ []) (set notes e.owner (used_by (note_in notes e) x.act))
    all_noted =
        notes_push last e.owner M (mark.Entered y) notes (used_by (note_in notes e) x.act) may.exists was.notes_are
        (ap (λ (z : Entry). used_by (note_in notes e) z.act) x_is ∙ here (note_in notes e)) (λ u v apart. rw apart refl)
      where
        here : (w : Note) → used_by w y.act ≡ note_by e.owner w (mark.Entered y)
        here w = rw (itself e.owner) refl

    stands : WireStands (marks_from sc most (es ++ x ∷ []) (ms ++ stored.Entered ∷ [])) (sends_all (behind_inputs net (inputs_of e.act)) (outs_of e.act))
    stands =
        let R : List Mark → Type 0 = λ l. WireStands l (sends_all (behind_inputs net (inputs_of e.act)) (outs_of e.act)) in
        subst R (sym marks_are) (entry_keeps sc most (marks_of es ms) net e was.stands may)
