-- All that is promised to an owner falls away.
use Rattle.std.proofs.Common.{◌≡◌, ◌-◌, ◌<◌, ◌≤◌, ℕ, suc, List, [], ◌∷◌, ◌++◌, length, set, ◌∙◌, ap, refl, arith, length-append}
use Rattle.std.specs.Prelude.{slice_index_or}
use Rattle.e3_types.specs.declared.entries.Entry.{Entry}
use Rattle.e3_types.specs.declared.scenarios.Scenario.{Scenario}
use Rattle.e3_net.specs.Traffic.{Traffic}
use Rattle.e3_wire.specs.Claims.{FreedLeaves}
use Rattle.e3_wire.specs.declared.marks.Mark.{Mark}
use Rattle.e3_wire.specs.declared.marks.Mark.TheVariants as mark
use Rattle.e3_wire.specs.declared.marks.Note.{Note}
use Rattle.e3_wire.specs.declared.marks.Stored.{Stored}
use Rattle.e3_wire.specs.declared.marks.Stored.TheVariants as stored
use Rattle.e3_wire.specs.Marks.{note_of, nothing, promised, rooms, used_of}
use Rattle.e3_wire.specs.Stores.{IsKept, count_stored, marks_from, marks_of}
use Rattle.e3_wire.proofs.Changing.{Changes, has_noted, kept_on}
use Rattle.e3_wire.proofs.Noting.{flip, note_push, noted}
use Rattle.e3_wire.proofs.Sums.{itself, one_of_all}

freed_changes : (o : ℕ) (marks : List Mark) → Changes o nothing marks (mark.Freed o ∷ [])
freed_changes o marks = record {
  enters = refl;
  few = (tt, tt);
  noted = note_push o marks (mark.Freed o) ∙ (rw (itself o) refl);
  others = λ u apart. note_push u marks (mark.Freed o) ∙ (rw (flip u o apart) refl);
}

marks_free : (es : List Entry) (ms : List Stored) (o : ℕ) → marks_of es (ms ++ stored.Freed o ∷ []) ≡ marks_of es ms ++ mark.Freed o ∷ []
marks_free es [] o = refl
marks_free [] (stored.Entered ∷ ms) o = marks_free [] ms o
marks_free (x ∷ es) (stored.Entered ∷ ms) o = ap (λ l. mark.Entered x ∷ l) (marks_free es ms o)
marks_free es (stored.Place p k ∷ ms) o = ap (λ l. mark.Place p k ∷ l) (marks_free es ms o)
marks_free es (stored.Freed p ∷ ms) o = ap (λ l. mark.Freed p ∷ l) (marks_free es ms o)

count_free : (ms : List Stored) (o : ℕ) → count_stored (ms ++ stored.Freed o ∷ []) ≡ count_stored ms
count_free [] o = refl
count_free (stored.Entered ∷ ms) o = ap suc (count_free ms o)
count_free (stored.Place p k ∷ ms) o = count_free ms o
count_free (stored.Freed p ∷ ms) o = count_free ms o

pub marks_freed : (sc : Scenario) (most : ℕ) (es : List Entry) (ms : List Stored) (o : ℕ) →
    marks_from sc most es (ms ++ stored.Freed o ∷ []) ≡ marks_from sc most es ms ++ mark.Freed o ∷ []
marks_freed sc most es ms o = ap (λ l. mark.Start sc most ∷ l) (marks_free es ms o)

-- what is known before, and what holds behind it
pub record IsLetGo (sc : Scenario) (most : ℕ) (es : List Entry) (ms : List Stored) (net : Traffic) (notes : List Note) (places room spare hr sr nr o : ℕ) : Type 0 where
  pub note : o < length notes
  pub mark_room : length ms < sr
  pub places_are : (slice_index_or notes o nothing).places ≤ places
  pub room_is : (slice_index_or notes o nothing).room ≤ room
  pub kept : IsKept sc most es (ms ++ stored.Freed o ∷ []) net (set notes o nothing) (places - (slice_index_or notes o nothing).places) (room - (slice_index_or notes o nothing).room) spare hr sr nr

pub freed : (sc : Scenario) (most : ℕ) (es : List Entry) (ms : List Stored) (net : Traffic) (notes : List Note) (places room spare hr sr nr o : ℕ) →
    IsKept sc most es ms net notes places room spare hr sr nr → o ≤ length sc.weights → 1 ≤ (note_of o (marks_from sc most es ms)).places →
    IsLetGo sc most es ms net notes places room spare hr sr nr o
freed sc most es ms net notes places room spare hr sr nr o was low some = record {
  note = noted last o M notes low was.notes_are;
  mark_room = (let f = was.for_marks in omega (arith, f, own_places, some, places_were));
  places_are = omega (arith, is_places, own_places, places_were);
  room_is = omega (arith, is_room, own_room, room_was);
  kept = kept_on sc most es ms (ms ++ stored.Freed o ∷ []) net notes places room spare hr sr nr o nothing (mark.Freed o ∷ []) places2 room2 spare hr sr nr was low
      (marks_freed sc most es ms o) (count_free ms o) (freed_changes o M) (omega (arith, within)) (omega (arith, is_places, own_places, places_were)) (omega (arith, is_room, own_room, room_was))
      (let f = was.for_entries in omega (arith, f)) was.spare_is
      (let f = was.for_marks in let long = length-append ms (stored.Freed o ∷ []) in omega (arith, f, long, is_places, own_places, some, places_were))
      (let f = was.for_packets in omega (arith, f));
}
  where
    M : List Mark
    M = marks_from sc most es ms

    last : ℕ
    last = length sc.weights

    places2 : ℕ
    places2 = places - (slice_index_or notes o nothing).places

    room2 : ℕ
    room2 = room - (slice_index_or notes o nothing).room

    within : used_of M ≤ most
    within = was.stands.played.within

    is_places : (slice_index_or notes o nothing).places ≡ (note_of o M).places
    is_places = ap (λ (w : Note). w.places) (was.notes_are.each o low)

    is_room : (slice_index_or notes o nothing).room ≡ (note_of o M).room
    is_room = ap (λ (w : Note). w.room) (was.notes_are.each o low)

    own_places : (note_of o M).places ≤ promised last M
    own_places = one_of_all (λ u. (note_of u M).places) o last low

    own_room : (note_of o M).room ≤ rooms last M
    own_room = one_of_all (λ u. (note_of u M).room) o last low

    places_were : places ≡ promised last M
    places_were = was.places_are

    room_was : room ≡ rooms last M
    room_was = was.room_is

pub freed_leaves : FreedLeaves
freed_leaves o marks played low =
    let within = played.within in
    let noted = has_noted o nothing marks (mark.Freed o ∷ []) played low (freed_changes o marks) (omega (arith, within)) in
    (noted.0, (let used = noted.1 in omega (arith, used)))
