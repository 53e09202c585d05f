-- Places that are promised, and the opening value.
use Rattle.std.proofs.Common.{◌≡◌, ◌==◌, ◌+◌, ◌-◌, ◌*◌, ◌^◌, ◌<◌, ◌≤◌, ℕ, zero, suc, false, nat_le, List, [], ◌∷◌, ◌++◌, length, replicate, set, ◌∙◌, ap, sym, subst, refl, arith, fold, length-append}
use Rattle.std.specs.Prelude.{slice_index_or}
use Rattle.std.proofs.lemmas.Bool.{leb-false}
use Rattle.std.proofs.lemmas.Grind.{fold-append}
use Rattle.std.proofs.lemmas.List.{length-replicate}
use Rattle.e3_types.specs.declared.entries.Entry.{Entry}
use Rattle.e3_types.specs.declared.scenarios.Scenario.{Scenario}
use Rattle.e3_world.specs.Given.{IsGiven}
use Rattle.e3_net.specs.Traffic.{Traffic, fresh}
use Rattle.e3_net.proofs.Keeping.{fresh_stands}
use Rattle.e3_wire.specs.Claims.{HasNoted, PlacesPromise}
use Rattle.e3_wire.specs.declared.marks.Mark.{Mark}
use Rattle.e3_wire.specs.declared.marks.Mark.TheVariants as mark
use Rattle.e3_wire.specs.declared.marks.Note.{Note}
use Rattle.e3_wire.specs.declared.marks.Stored.{Stored}
use Rattle.e3_wire.specs.declared.marks.Stored.TheVariants as stored
use Rattle.e3_turn.specs.Chronicles.{ExtendsByOthers}
use Rattle.e3_wire.specs.Marks.{AreFew, belongs, entries_of, last_owner, most_of, note_by, note_of, nothing, places_for, promised, rooms, total, used_of}
use Rattle.e3_wire.specs.Stores.{IsKept, count_stored, marks_from, marks_of}
use Rattle.e3_wire.proofs.Entering.{entries_stored}
use Rattle.e3_wire.proofs.Changing.{Changes, has_noted, kept_on}
use Rattle.e3_wire.proofs.Noting.{first_notes, flip, note_push, noted}
use Rattle.e3_wire.proofs.Rooms.{few_rooms}
use Rattle.e3_wire.proofs.Sums.{itself, one_of_all}

-- the history is as long as the marks say
pub used_is : (sc : Scenario) (most : ℕ) (es : List Entry) (ms : List Stored) → length es ≡ count_stored ms →
    used_of (marks_from sc most es ms) ≡ length es + promised (length sc.weights) (marks_from sc most es ms)
used_is sc most es ms whole = ap (λ l. length l + promised (length sc.weights) (marks_from sc most es ms)) (entries_stored es ms whole)

-- there are few entries and places
pub few_are : (sc : Scenario) (most : ℕ) (es : List Entry) (ms : List Stored) (net : Traffic) (notes : List Note) (places room spare hr sr nr : ℕ) → IsKept sc most es ms net notes places room spare hr sr nr →
    (length es < 2 ^ 32) × (places < 2 ^ 32)
few_are sc most es ms net notes places room spare hr sr nr was =
    let used = used_is sc most es ms was.whole in
    let p = was.places_are in
    let few : most ≤ 2000000 = was.stands.played.few in
    let within : used_of (marks_from sc most es ms) ≤ most = was.stands.played.within in
    (omega (arith, used, p, within, few), omega (arith, used, p, within, few))

-- 64 bits count the room, with that of one more place too
room_is_few : (sc : Scenario) (most : ℕ) (es : List Entry) (ms : List Stored) (net : Traffic) (notes : List Note) (places room spare hr sr nr : ℕ) → IsKept sc most es ms net notes places room spare hr sr nr →
    room ≤ (2 ^ 32 - 1) * used_of (marks_from sc most es ms)
room_is_few sc most es ms net notes places room spare hr sr nr was =
    let all = few_rooms (length sc.weights) (marks_from sc most es ms) was.stands.played.promises in
    let r = was.room_is in
    omega (arith, all, r)

pub room_alone : (sc : Scenario) (most : ℕ) (es : List Entry) (ms : List Stored) (net : Traffic) (notes : List Note) (places room spare hr sr nr : ℕ) → IsKept sc most es ms net notes places room spare hr sr nr →
    room + 0 < 2 ^ 64
room_alone sc most es ms net notes places room spare hr sr nr was =
    let all = room_is_few sc most es ms net notes places room spare hr sr nr was in
    let within : used_of (marks_from sc most es ms) ≤ most = was.stands.played.within in
    let few : most ≤ 2000000 = was.stands.played.few in
    omega (arith, all, within, few)

pub room_fits : (sc : Scenario) (most : ℕ) (es : List Entry) (ms : List Stored) (net : Traffic) (notes : List Note) (places room spare hr sr nr outs : ℕ) →
    IsKept sc most es ms net notes places room spare hr sr nr → used_of (marks_from sc most es ms) < most → outs < 2 ^ 32 → room + outs < 2 ^ 64
room_fits sc most es ms net notes places room spare hr sr nr outs was left small =
    let all = room_is_few sc most es ms net notes places room spare hr sr nr was in
    let few : most ≤ 2000000 = was.stands.played.few in
    omega (arith, all, left, few, small)

-- what is not full has a place more
pub not_full : (marks now : List Mark) → marks ≡ now → nat_le (most_of now) (used_of now) ≡ false → used_of marks < most_of marks
not_full marks now same is =
    let P : List Mark → Type 0 = λ l. used_of l < most_of l in
    subst P (sym same) (leb-false (most_of now) (used_of now) is)

-- an owner of the first marks is one of all
pub owner_on : (last : ℕ) (owners : List ℕ) (seen chronicle : List Mark) (o : ℕ) → ExtendsByOthers belongs last owners seen chronicle → o ≤ last_owner seen → o ≤ last_owner chronicle
owner_on last owners seen chronicle o grew low =
    let P : List Mark → Type 0 = λ l. o ≤ last_owner l in
    subst P (sym grew.1) (by seen low)
  where
    by : (seen : List Mark) → o ≤ last_owner seen → o ≤ last_owner (seen ++ grew.0)
    by (mark.Start sc most ∷ rest) low = low
    by [] low = omega (arith, low)
    by (mark.Entered e ∷ rest) low = omega (arith, low)
    by (mark.Place p n ∷ rest) low = omega (arith, low)
    by (mark.Freed p ∷ rest) low = omega (arith, low)

none_promised : (n : ℕ) → total (λ o. 0) n ≡ 0
none_promised zero = refl
none_promised (suc n) = let rest = none_promised n in omega (arith, rest)

-- at first nothing is entered and nothing is promised
pub opened : (sc : Scenario) (most hr sr nr : ℕ) (notes : List Note) → IsGiven sc → most ≤ 2000000 → notes ≡ replicate (length sc.weights + 1) nothing →
    IsKept sc most [] [] (fresh (length sc.weights) sc.luck sc.loss sc.repeat) notes 0 0 0 hr sr nr
opened sc most hr sr nr notes given few noted = record {
  stands = record {
    played = record { given = given; legal = tt; within = (let none = none_promised (length sc.weights) in omega (arith, none)); few = few; promises = (tt, tt) };
    net = fresh_stands sc;
  };
  whole = refl;
  notes_are = first_notes sc most (length sc.weights) notes noted;
  places_are = sym (none_promised (length sc.weights));
  room_is = sym (none_promised (length sc.weights));
  for_entries = omega arith;
  spare_is = omega arith;
  for_marks = omega arith;
  for_packets = omega arith;
  counted = omega arith;
}

marks_place : (es : List Entry) (ms : List Stored) (o n : ℕ) → marks_of es (ms ++ stored.Place o n ∷ []) ≡ marks_of es ms ++ mark.Place o n ∷ []
marks_place es [] o n = refl
marks_place [] (stored.Entered ∷ ms) o n = marks_place [] ms o n
marks_place (x ∷ es) (stored.Entered ∷ ms) o n = ap (λ l. mark.Entered x ∷ l) (marks_place es ms o n)
marks_place es (stored.Place p k ∷ ms) o n = ap (λ l. mark.Place p k ∷ l) (marks_place es ms o n)
marks_place es (stored.Freed p ∷ ms) o n = ap (λ l. mark.Freed p ∷ l) (marks_place es ms o n)

pub count_place : (ms : List Stored) (o n : ℕ) → count_stored (ms ++ stored.Place o n ∷ []) ≡ count_stored ms
count_place [] o n = refl
count_place (stored.Entered ∷ ms) o n = ap suc (count_place ms o n)
count_place (stored.Place p k ∷ ms) o n = count_place ms o n
count_place (stored.Freed p ∷ ms) o n = count_place ms o n

pub marks_claimed : (sc : Scenario) (most : ℕ) (es : List Entry) (ms : List Stored) (o n : ℕ) →
    marks_from sc most es (ms ++ stored.Place o n ∷ []) ≡ marks_from sc most es ms ++ mark.Place o n ∷ []
marks_claimed sc most es ms o n = ap (λ l. mark.Start sc most ∷ l) (marks_place es ms o n)

-- what a promise of so many places and so much room makes of a note
abbrev pub adds : ℕ → ℕ → Note → Note
adds n outs w = record { places = w.places + n; room = w.room + outs }

-- an owner's note is there, and small
pub record CanBeNoted (notes : List Note) (o n outs : ℕ) : Type 0 where
  pub note : o < length notes
  pub places : (slice_index_or notes o nothing).places + n < 2 ^ 64
  pub room : (slice_index_or notes o nothing).room + outs < 2 ^ 64

pub can_be_noted : (sc : Scenario) (most : ℕ) (es : List Entry) (ms : List Stored) (net : Traffic) (notes : List Note) (places room spare hr sr nr o n outs : ℕ) →
    IsKept sc most es ms net notes places room spare hr sr nr → o ≤ length sc.weights → n < 2 ^ 32 → room + outs < 2 ^ 64 → CanBeNoted notes o n outs
can_be_noted sc most es ms net notes places room spare hr sr nr o n outs was low more few =
    let M : List Mark = marks_from sc most es ms in
    let is : slice_index_or notes o nothing ≡ note_of o M = was.notes_are.each o low in
    let one : (slice_index_or notes o nothing).places ≡ (note_of o M).places = ap (λ (w : Note). w.places) is in
    let two : (slice_index_or notes o nothing).room ≡ (note_of o M).room = ap (λ (w : Note). w.room) is in
    let own_places : (note_of o M).places ≤ promised (length sc.weights) M = one_of_all (λ u. (note_of u M).places) o (length sc.weights) low in
    let own_room : (note_of o M).room ≤ rooms (length sc.weights) M = one_of_all (λ u. (note_of u M).room) o (length sc.weights) low in
    let under = (few_are sc most es ms net notes places room spare hr sr nr was).1 in
    let p = was.places_are in
    let r = was.room_is in
    record {
      note = noted (length sc.weights) o M notes low was.notes_are;
      places = omega (arith, one, own_places, under, p, more);
      room = omega (arith, two, own_room, few, r);
    }

-- What is shared stands with promises of so many places and so much room to one owner more.
pub promised_kept : (sc : Scenario) (most : ℕ) (es : List Entry) (ms new : List Stored) (net : Traffic) (notes : List Note) (places room spare hr sr nr spare2 hr2 sr2 nr2 o n outs room2 : ℕ)
    (more : List Mark) → IsKept sc most es ms net notes places room spare hr sr nr → o ≤ length sc.weights → used_of (marks_from sc most es ms) + n ≤ most →
    marks_from sc most es new ≡ marks_from sc most es ms ++ more → count_stored new ≡ count_stored ms → Changes o (adds n outs (note_of o (marks_from sc most es ms))) (marks_from sc most es ms) more →
    room2 ≡ room + outs → places + n ≤ spare2 → spare2 ≤ hr2 → length new + (places + n) ≤ sr2 → room2 ≤ nr2 →
    IsKept sc most es new net (set notes o (adds n outs (slice_index_or notes o nothing))) (places + n) room2 spare2 hr2 sr2 nr2
promised_kept sc most es ms new net notes places room spare hr sr nr spare2 hr2 sr2 nr2 o n outs room2 more was low few marks_are count is room_is for_entries spare_is for_marks for_packets =
    let P : Note → Type 0 = λ v. IsKept sc most es new net (set notes o (adds n outs v)) (places + n) room2 spare2 hr2 sr2 nr2 in
    subst P (sym (was.notes_are.each o low))
    (kept_on sc most es ms new net notes places room spare hr sr nr o (adds n outs w) more (places + n) room2 spare2 hr2 sr2 nr2 was low marks_are count is (omega (arith, few)) (omega arith)
    (omega (arith, room_is)) for_entries spare_is for_marks for_packets)
  where
    w : Note
    w = note_of o (marks_from sc most es ms)

-- one place, with room for so many packets
place_changes : (o outs : ℕ) (marks : List Mark) → outs < 2 ^ 32 → Changes o (adds 1 outs (note_of o marks)) marks (mark.Place o outs ∷ [])
place_changes o outs marks few = record {
  enters = refl;
  few = (few, tt);
  noted = note_push o marks (mark.Place o outs) ∙ (rw (itself o) (let one : suc w.places ≡ w.places + 1 = omega arith in ap (λ (k : ℕ). let v : Note = record { places = k; room = w.room + outs } in v) one));
  others = λ u apart. note_push u marks (mark.Place o outs) ∙ (rw (flip u o apart) refl);
}
  where
    w : Note
    w = note_of o marks

pub claimed : (sc : Scenario) (most : ℕ) (es : List Entry) (ms : List Stored) (net : Traffic) (notes : List Note) (places room spare hr sr nr spare2 hr2 sr2 nr2 o outs room2 : ℕ) →
    IsKept sc most es ms net notes places room spare hr sr nr → o ≤ length sc.weights → used_of (marks_from sc most es ms) < most → room2 ≡ room + outs → places + 1 ≤ spare2 → spare2 ≤ hr2 →
    length ms + (places + 2) ≤ sr2 → room2 ≤ nr2 → outs < 2 ^ 32 →
    IsKept sc most es (ms ++ stored.Place o outs ∷ []) net (set notes o (adds 1 outs (slice_index_or notes o nothing))) (places + 1) room2 spare2 hr2 sr2 nr2
claimed sc most es ms net notes places room spare hr sr nr spare2 hr2 sr2 nr2 o outs room2 was low few more for_entries spare_is for_marks for_packets small =
    promised_kept sc most es ms (ms ++ stored.Place o outs ∷ []) net notes places room spare hr sr nr spare2 hr2 sr2 nr2 o 1 outs room2 (mark.Place o outs ∷ []) was low (omega (arith, few))
    (marks_claimed sc most es ms o outs) (count_place ms o outs) (place_changes o outs (marks_from sc most es ms) small) more for_entries spare_is
    (let long = length-append ms (stored.Place o outs ∷ []) in omega (arith, long, for_marks)) for_packets

-- so many places without room
places_enter : (o n : ℕ) → entries_of (places_for o n) ≡ []
places_enter o zero = refl
places_enter o (suc n) = places_enter o n

places_own : (o n : ℕ) (w : Note) → fold (note_by o) w (places_for o n) ≡ adds n 0 w
places_own o zero w =
    let none : w.places ≡ w.places + 0 = omega arith in
    let same : w.room ≡ w.room + 0 = omega arith in
    ap (λ (k : ℕ). let v : Note = record { places = k; room = w.room } in v) none ∙ ap (λ (k : ℕ). let v : Note = record { places = w.places + 0; room = k } in v) same
places_own o (suc n) w =
    let one : note_by o w (mark.Place o 0) ≡ record { places = suc w.places; room = w.room + 0 } = rw (itself o) refl in
    let more : suc w.places + n ≡ w.places + suc n = omega arith in
    let same : (w.room + 0) + 0 ≡ w.room + 0 = omega arith in
    ap (λ (v : Note). fold (note_by o) v (places_for o n)) one ∙ places_own o n (record { places = suc w.places; room = w.room + 0 })
    ∙ ap (λ (k : ℕ). let v : Note = record { places = k; room = (w.room + 0) + 0 } in v) more ∙ ap (λ (k : ℕ). let v : Note = record { places = w.places + suc n; room = k } in v) same

places_other : (u o n : ℕ) (w : Note) → (o == u) ≡ false → fold (note_by u) w (places_for o n) ≡ w
places_other u o zero w apart = refl
places_other u o (suc n) w apart =
    let one : note_by u w (mark.Place o 0) ≡ w = rw apart refl in
    ap (λ (v : Note). fold (note_by u) v (places_for o n)) one ∙ places_other u o n w apart

places_few : (o n : ℕ) → AreFew (places_for o n)
places_few o zero = tt
places_few o (suc n) = (omega arith, places_few o n)

places_change : (o n : ℕ) (marks : List Mark) → Changes o (adds n 0 (note_of o marks)) marks (places_for o n)
places_change o n marks = record {
  enters = places_enter o n;
  few = places_few o n;
  noted = fold-append (note_by o) nothing marks (places_for o n) ∙ places_own o n (note_of o marks);
  others = λ u apart. fold-append (note_by u) nothing marks (places_for o n) ∙ places_other u o n (note_of u marks) (flip u o apart);
}

stored_places : (es : List Entry) (o n : ℕ) → marks_of es (replicate n (stored.Place o 0)) ≡ places_for o n
stored_places es o zero = refl
stored_places es o (suc n) = ap (λ l. mark.Place o 0 ∷ l) (stored_places es o n)

marks_places : (es : List Entry) (ms : List Stored) (o n : ℕ) → marks_of es (ms ++ replicate n (stored.Place o 0)) ≡ marks_of es ms ++ places_for o n
marks_places es [] o n = stored_places es o n
marks_places [] (stored.Entered ∷ ms) o n = marks_places [] ms o n
marks_places (x ∷ es) (stored.Entered ∷ ms) o n = ap (λ l. mark.Entered x ∷ l) (marks_places es ms o n)
marks_places es (stored.Place p k ∷ ms) o n = ap (λ l. mark.Place p k ∷ l) (marks_places es ms o n)
marks_places es (stored.Freed p ∷ ms) o n = ap (λ l. mark.Freed p ∷ l) (marks_places es ms o n)

count_places : (ms : List Stored) (o n : ℕ) → count_stored (ms ++ replicate n (stored.Place o 0)) ≡ count_stored ms
count_places [] o zero = refl
count_places [] o (suc n) = count_places [] o n
count_places (stored.Entered ∷ ms) o n = ap suc (count_places ms o n)
count_places (stored.Place p k ∷ ms) o n = count_places ms o n
count_places (stored.Freed p ∷ ms) o n = count_places ms o n

pub marks_placed : (sc : Scenario) (most : ℕ) (es : List Entry) (ms : List Stored) (o n : ℕ) →
    marks_from sc most es (ms ++ replicate n (stored.Place o 0)) ≡ marks_from sc most es ms ++ places_for o n
marks_placed sc most es ms o n = ap (λ l. mark.Start sc most ∷ l) (marks_places es ms o n)

pub placed : (sc : Scenario) (most : ℕ) (es : List Entry) (ms : List Stored) (net : Traffic) (notes : List Note) (places room spare hr sr nr spare2 hr2 sr2 o n : ℕ) →
    IsKept sc most es ms net notes places room spare hr sr nr → o ≤ length sc.weights → used_of (marks_from sc most es ms) + n ≤ most → places + n ≤ spare2 → spare2 ≤ hr2 →
    length ms + (places + 2 * n) ≤ sr2 →
    IsKept sc most es (ms ++ replicate n (stored.Place o 0)) net (set notes o (adds n 0 (slice_index_or notes o nothing))) (places + n) room spare2 hr2 sr2 nr
placed sc most es ms net notes places room spare hr sr nr spare2 hr2 sr2 o n was low few for_entries spare_is for_marks =
    promised_kept sc most es ms (ms ++ replicate n (stored.Place o 0)) net notes places room spare hr sr nr spare2 hr2 sr2 nr o n 0 room (places_for o n) was low few
    (marks_placed sc most es ms o n) (count_places ms o n) (places_change o n (marks_from sc most es ms)) (omega arith) for_entries spare_is
    (let long = length-append ms (replicate n (stored.Place o 0)) in let all = length-replicate n (stored.Place o 0) in omega (arith, long, all, for_marks)) was.for_packets

pub places_promise : PlacesPromise
places_promise o n marks played low few =
    let w : Note = note_of o marks in
    let noted = has_noted o (adds n 0 w) marks (places_for o n) played low (places_change o n marks) (omega (arith, few)) in
    let same : w.room + 0 ≡ w.room = omega arith in
    let P : ℕ → Type 0 = λ k. HasNoted o (record { places = w.places + n; room = k }) marks (marks ++ places_for o n) in
    (subst P same noted.0, (let used = noted.1 in omega (arith, used)))
