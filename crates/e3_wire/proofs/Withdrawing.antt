-- A promise that is taken back.
use Rattle.std.proofs.Common.{◌≡◌, ◌+◌, ◌-◌, ◌<◌, ◌≤◌, ℕ, suc, List, [], ◌∷◌, ◌++◌, append-nil, length, set, take, ◌∙◌, ap, sym, subst, refl, arith, length-append}
use Rattle.std.specs.Prelude.{slice_index_or}
use Rattle.std.proofs.Math.Seq.{take-append_seam}
use Rattle.e3_types.specs.declared.entries.Entry.{Entry}
use Rattle.e3_types.specs.declared.scenarios.Scenario.{Scenario}
use Rattle.e3_world.specs.Legal.{IsLegal}
use Rattle.e3_net.specs.Stands.{NetStands}
use Rattle.e3_net.specs.Traffic.{Traffic}
use Rattle.e3_wire.specs.declared.marks.Mark.{Mark}
use Rattle.e3_wire.specs.declared.marks.Mark.TheVariants as mark
use Rattle.e3_wire.specs.declared.marks.Note.{Note}
use Rattle.e3_wire.specs.declared.marks.Stored.{Stored}
use Rattle.e3_wire.specs.declared.marks.Stored.TheVariants as stored
use Rattle.e3_wire.specs.Marks.{entries_of, last_owner, note_by, note_of, nothing, promised, rooms}
use Rattle.e3_wire.specs.Stores.{AreNotes, IsKept, count_stored, marks_from, marks_of}
use Rattle.e3_wire.specs.Wires.{WireStands}
use Rattle.e3_wire.proofs.Claiming.{count_place, marks_claimed}
use Rattle.e3_wire.proofs.Foreign.{entries_append}
use Rattle.e3_wire.proofs.Noting.{noted, notes_withdrawn}
use Rattle.e3_wire.proofs.Rooms.{few_front}
use Rattle.e3_wire.proofs.Sums.{changes, itself}

-- marks that end in a promise are stored so
pub record Ends (es : List Entry) (ms : List Stored) (o n : ℕ) (rest : List Mark) : Type 0 where
  pub front : List Stored
  pub stored : ms ≡ front ++ stored.Place o n ∷ []
  pub marks : rest ≡ marks_of es front

none_stored : (es : List Entry) (ms : List Stored) → length es ≡ count_stored ms → marks_of es ms ≡ [] → (ms ≡ []) × (es ≡ [])
none_stored [] [] whole none = (refl, refl)
none_stored (e ∷ es) [] whole none = absurd (omega (arith, whole))
none_stored [] (stored.Entered ∷ ms) whole none = absurd (omega (arith, whole))
none_stored (e ∷ es) (stored.Entered ∷ ms) whole none = absurd cc
none_stored [] (stored.Place o n ∷ ms) whole none = absurd cc
none_stored (e ∷ es) (stored.Place o n ∷ ms) whole none = absurd cc
none_stored [] (stored.Freed o ∷ ms) whole none = absurd cc
none_stored (e ∷ es) (stored.Freed o ∷ ms) whole none = absurd cc

pub ends : (es : List Entry) (ms : List Stored) (o n : ℕ) (rest : List Mark) → length es ≡ count_stored ms → marks_of es ms ≡ rest ++ mark.Place o n ∷ [] → Ends es ms o n rest
ends [] [] o n [] whole is = absurd cc
ends [] [] o n (r ∷ rest) whole is = absurd cc
ends (e ∷ es) [] o n rest whole is = absurd (omega (arith, whole))
ends [] (stored.Entered ∷ ms) o n rest whole is = absurd (omega (arith, whole))
ends (e ∷ es) (stored.Entered ∷ ms) o n [] whole is = absurd cc
ends (e ∷ es) (stored.Entered ∷ ms) o n (r ∷ rest) whole is =
    let more = ends es ms o n rest (omega (arith, whole)) cc in
    let head : r ≡ mark.Entered e = cc in
    record {
      front = stored.Entered ∷ more.front;
      stored = ap (λ (l : List Stored). stored.Entered ∷ l) more.stored;
      marks = ap (λ (x : Mark). x ∷ rest) head ∙ ap (λ (l : List Mark). mark.Entered e ∷ l) more.marks;
    }
ends es (stored.Place p k ∷ ms) o n [] whole is =
    let tail : marks_of es ms ≡ [] = cc in
    let none = none_stored es ms whole tail in
    let owner : p ≡ o = cc in
    let outs : k ≡ n = cc in
    record {
      front = [];
      stored = ap (λ (l : List Stored). stored.Place p k ∷ l) none.0 ∙ ap (λ (u : ℕ). stored.Place u k ∷ []) owner ∙ ap (λ (u : ℕ). stored.Place o u ∷ []) outs;
      marks = refl;
    }
ends es (stored.Place p k ∷ ms) o n (r ∷ rest) whole is =
    let more = ends es ms o n rest whole cc in
    let head : r ≡ mark.Place p k = cc in
    record {
      front = stored.Place p k ∷ more.front;
      stored = ap (λ (l : List Stored). stored.Place p k ∷ l) more.stored;
      marks = ap (λ (x : Mark). x ∷ rest) head ∙ ap (λ (l : List Mark). mark.Place p k ∷ l) more.marks;
    }
ends es (stored.Freed p ∷ ms) o n [] whole is = absurd cc
ends es (stored.Freed p ∷ ms) o n (r ∷ rest) whole is =
    let more = ends es ms o n rest whole cc in
    let head : r ≡ mark.Freed p = cc in
    record {
      front = stored.Freed p ∷ more.front;
      stored = ap (λ (l : List Stored). stored.Freed p ∷ l) more.stored;
      marks = ap (λ (x : Mark). x ∷ rest) head ∙ ap (λ (l : List Mark). mark.Freed p ∷ l) more.marks;
    }

-- what is left of them, without the last
pub front_is : (ms front : List Stored) (x : Stored) (kept : ℕ) → ms ≡ front ++ x ∷ [] → kept ≡ length ms - 1 → take kept ms ≡ front
front_is ms front x kept is count =
    let long : length ms ≡ length front + 1 = ap length is ∙ length-append front (x ∷ []) in
    let short : kept ≡ length front = omega (arith, count, long) in
    ap (λ (n : ℕ). take n ms) short ∙ ap (take (length front)) is ∙ take-append_seam front (x ∷ [])

-- the notes without it
abbrev pub unnoted : List Note → ℕ → ℕ → List Note
unnoted notes o n = set notes o (record { places = (slice_index_or notes o nothing).places - 1; room = (slice_index_or notes o nothing).room - n })

pub withdrawn : (sc : Scenario) (most : ℕ) (es : List Entry) (ms front : List Stored) (net : Traffic) (notes : List Note) (places room spare hr sr nr o n : ℕ) →
    IsKept sc most es ms net notes places room spare hr sr nr → ms ≡ front ++ stored.Place o n ∷ [] → o ≤ length sc.weights →
    (1 ≤ places) × (n ≤ room) × IsKept sc most es front net (unnoted notes o n) (places - 1) (room - n) spare hr sr nr
withdrawn sc most es ms front net notes places room spare hr sr nr o n was is low = (
  some,
  enough,
  record {
    stands = record {
      played = record {
        given = kept.stands.played.given;
        legal = subst (IsLegal sc) same there.played.legal;
        within = within;
        few = kept.stands.played.few;
        promises = few_front M (m ∷ []) there.played.promises;
      };
      net = subst (λ h. NetStands sc h net) same there.net;
    };
    whole = kept.whole ∙ count_place front o n;
    notes_are = notes_withdrawn last o n M notes _ low (let P : List Mark → Type 0 = λ l. AreNotes last l notes in subst P marks_are kept.notes_are) refl;
    places_are = (let f = places_were in omega (arith, f, moved_places, places_more));
    room_is = (let f = room_was in omega (arith, f, moved_room, room_more));
    for_entries = (let f = kept.for_entries in omega (arith, f));
    spare_is = kept.spare_is;
    for_marks = (let f = kept.for_marks in let long = length-append front (stored.Place o n ∷ []) in omega (arith, f, long));
    for_packets = (let f = kept.for_packets in omega (arith, f));
    counted = kept.counted;
  },
)
  where
    kept : IsKept sc most es (front ++ stored.Place o n ∷ []) net notes places room spare hr sr nr
    kept = subst (λ (l : List Stored). IsKept sc most es l net notes places room spare hr sr nr) is was

    M : List Mark
    M = marks_from sc most es front

    m : Mark
    m = mark.Place o n

    last : ℕ
    last = length sc.weights

    marks_are : marks_from sc most es (front ++ stored.Place o n ∷ []) ≡ M ++ m ∷ []
    marks_are = marks_claimed sc most es front o n

    there : WireStands (M ++ m ∷ []) net
    there = subst (λ (l : List Mark). WireStands l net) marks_are kept.stands

    same : entries_of (M ++ m ∷ []) ≡ entries_of M
    same = entries_append M (m ∷ []) ∙ append-nil (entries_of M)

    moved_places : promised last (M ++ m ∷ []) + (note_of o M).places ≡ promised last M + (note_by o (note_of o M) m).places
    moved_places = changes (λ w. w.places) M m o last low (λ u w apart. rw apart refl)

    places_more : (note_by o (note_of o M) m).places ≡ suc ((note_of o M).places)
    places_more = rw (itself o) refl

    moved_room : rooms last (M ++ m ∷ []) + (note_of o M).room ≡ rooms last M + (note_by o (note_of o M) m).room
    moved_room = changes (λ w. w.room) M m o last low (λ u w apart. rw apart refl)

    room_more : (note_by o (note_of o M) m).room ≡ (note_of o M).room + n
    room_more = rw (itself o) refl

    places_were : places ≡ promised last (M ++ m ∷ [])
    places_were = kept.places_are ∙ ap (promised last) marks_are

    room_was : room ≡ rooms last (M ++ m ∷ [])
    room_was = kept.room_is ∙ ap (rooms last) marks_are

    some : 1 ≤ places
    some = omega (arith, places_were, moved_places, places_more)

    enough : n ≤ room
    enough = omega (arith, room_was, moved_room, room_more)

    within : length (entries_of M) + promised last M ≤ most
    within =
        let long : length (entries_of (M ++ m ∷ [])) ≡ length (entries_of M) = ap length same in
        let was_within : length (entries_of (M ++ m ∷ [])) + promised last (M ++ m ∷ []) ≤ most = there.played.within in
        omega (arith, long, was_within, moved_places, places_more)

-- all that a promise that is taken back asks for and leaves
pub record Withdrawn (sc : Scenario) (most : ℕ) (es : List Entry) (new : List Stored) (net : Traffic) (notes : List Note) (places room spare hr sr nr o n : ℕ) : Type 0 where
  pub note : o < length notes
  pub some : 1 ≤ places
  pub enough : n ≤ room
  pub kept : IsKept sc most es new net (unnoted notes o n) (places - 1) (room - n) spare hr sr nr

pub withdraws : (sc : Scenario) (most : ℕ) (es : List Entry) (ms new : List Stored) (net : Traffic) (notes : List Note) (places room spare hr sr nr o n : ℕ) (before now : List Mark)
    (kept : ℕ) → IsKept sc most es ms net notes places room spare hr sr nr → marks_from sc most es ms ≡ now → o ≤ last_owner before → now ≡ before ++ mark.Place o n ∷ [] →
    new ≡ take kept ms → kept ≡ length ms - 1 → Withdrawn sc most es new net notes places room spare hr sr nr o n
withdraws sc most es ms new net notes places room spare hr sr nr o n [] now kept was view low is short count = absurd (
    let same : mark.Start sc most ∷ marks_of es ms ≡ mark.Place o n ∷ [] = view ∙ is in cc)
withdraws sc most es ms new net notes places room spare hr sr nr o n (b ∷ rest) now kept was view low is short count =
    let same : mark.Start sc most ∷ marks_of es ms ≡ b ∷ (rest ++ mark.Place o n ∷ []) = view ∙ is in
    let head : b ≡ mark.Start sc most = cc in
    let tail : marks_of es ms ≡ rest ++ mark.Place o n ∷ [] = cc in
    let end = ends es ms o n rest was.whole tail in
    let here : o ≤ length sc.weights = (let P : Mark → Type 0 = λ x. o ≤ last_owner (x ∷ rest) in subst P head low) in
    let front : new ≡ end.front = short ∙ front_is ms end.front (stored.Place o n) kept end.stored count in
    let all = withdrawn sc most es ms end.front net notes places room spare hr sr nr o n was end.stored here in
    record {
      note = noted (length sc.weights) o (marks_from sc most es ms) notes here was.notes_are;
      some = all.0;
      enough = all.1;
      kept = (let P : List Stored → Type 0 = λ l. IsKept sc most es l net (unnoted notes o n) (places - 1) (room - n) spare hr sr nr in subst P (sym front) all.2);
    }

-- the marks that are left
pub front_marks : (sc : Scenario) (most : ℕ) (es : List Entry) (ms new : List Stored) (o n : ℕ) (before now : List Mark) (kept : ℕ) →
    length es ≡ count_stored ms → marks_from sc most es ms ≡ now → now ≡ before ++ mark.Place o n ∷ [] → new ≡ take kept ms →
    kept ≡ length ms - 1 → marks_from sc most es new ≡ before
front_marks sc most es ms new o n [] now kept whole view is short count = absurd (
    let same : mark.Start sc most ∷ marks_of es ms ≡ mark.Place o n ∷ [] = view ∙ is in cc)
front_marks sc most es ms new o n (b ∷ rest) now kept whole view is short count =
    let same : mark.Start sc most ∷ marks_of es ms ≡ b ∷ (rest ++ mark.Place o n ∷ []) = view ∙ is in
    let head : b ≡ mark.Start sc most = cc in
    let tail : marks_of es ms ≡ rest ++ mark.Place o n ∷ [] = cc in
    let end = ends es ms o n rest whole tail in
    let front : new ≡ end.front = short ∙ front_is ms end.front (stored.Place o n) kept end.stored count in
    ap (λ (l : List Stored). marks_from sc most es l) front
    ∙ ap (λ (l : List Mark). mark.Start sc most ∷ l) (sym end.marks) ∙ ap (λ (x : Mark). x ∷ rest) (sym head)
