-- Marks that enter nothing, and change what is promised to one owner alone.
use Rattle.std.proofs.Common.{◌≡◌, ◌==◌, ◌+◌, ◌≤◌, ℕ, false, List, [], ◌∷◌, ◌++◌, append-nil, length, set, ◌∙◌, ap, sym, subst, refl, arith}
use Rattle.std.proofs.lemmas.Bool.{ne_eqb}
use Rattle.e3_types.specs.declared.entries.Entry.{Entry}
use Rattle.e3_types.specs.declared.scenarios.Scenario.{Scenario}
use Rattle.e3_world.specs.Legal.{IsLegal}
use Rattle.e3_net.specs.Stands.{NetStands}
use Rattle.e3_net.specs.Traffic.{Traffic}
use Rattle.e3_wire.specs.Claims.{HasNoted}
use Rattle.e3_wire.specs.declared.marks.Mark.{Mark}
use Rattle.e3_wire.specs.declared.marks.Mark.TheVariants as mark
use Rattle.e3_wire.specs.declared.marks.Note.{Note}
use Rattle.e3_wire.specs.declared.marks.Stored.{Stored}
use Rattle.e3_wire.specs.Marks.{AreFew, entries_of, last_owner, most_of, note_of, promised, rooms, total, used_of}
use Rattle.e3_wire.specs.Stores.{AreNotes, IsKept, count_stored, marks_from, marks_of}
use Rattle.e3_wire.specs.Wires.{IsPlayed, WireStands}
use Rattle.e3_wire.proofs.Foreign.{entries_append}
use Rattle.e3_wire.proofs.Noting.{sets}
use Rattle.e3_wire.proofs.Rooms.{few_append}
use Rattle.e3_wire.proofs.Sums.{one_changes}

-- such marks behind others, and the note that the owner has then
pub record Changes (o : ℕ) (w : Note) (marks more : List Mark) : Type 0 where
  pub enters : entries_of more ≡ []
  pub few : AreFew more
  pub noted : note_of o (marks ++ more) ≡ w
  pub others : (u : ℕ) → (u == o) ≡ false → note_of u (marks ++ more) ≡ note_of u marks

moves : (F : Note → ℕ) (o last : ℕ) (w : Note) (marks more : List Mark) → o ≤ last → Changes o w marks more →
    total (λ u. F (note_of u (marks ++ more))) last + F (note_of o marks) ≡ total (λ u. F (note_of u marks)) last + F w
moves F o last w marks more low is =
    one_changes (λ u. F (note_of u marks)) (λ u. F (note_of u (marks ++ more))) o last low (λ u apart. ap F (is.others u apart))
    ∙ ap (λ (v : Note). total (λ u. F (note_of u marks)) last + F v) is.noted

same_entries : (o : ℕ) (w : Note) (marks more : List Mark) → Changes o w marks more → entries_of (marks ++ more) ≡ entries_of marks
same_entries o w marks more is =
    entries_append marks more ∙ ap (λ (l : List Entry). entries_of marks ++ l) is.enters ∙ append-nil (entries_of marks)

-- what is used then
uses : (sc : Scenario) (most : ℕ) (rest more : List Mark) (o : ℕ) (w : Note) → o ≤ length sc.weights → Changes o w (mark.Start sc most ∷ rest) more →
    used_of ((mark.Start sc most ∷ rest) ++ more) + (note_of o (mark.Start sc most ∷ rest)).places ≡ used_of (mark.Start sc most ∷ rest) + w.places
uses sc most rest more o w low is =
    let M : List Mark = mark.Start sc most ∷ rest in
    let moved : promised (length sc.weights) (M ++ more) + (note_of o M).places ≡ promised (length sc.weights) M + w.places =
    moves (λ v. v.places) o (length sc.weights) w M more low is in
    let long : length (entries_of (M ++ more)) ≡ length (entries_of M) = ap length (same_entries o w M more is) in
    let sum : (length (entries_of (M ++ more)) + promised (length sc.weights) (M ++ more)) + (note_of o M).places
    ≡ (length (entries_of M) + promised (length sc.weights) M) + w.places = omega (arith, moved, long) in
    sum

played_on : (sc : Scenario) (most : ℕ) (rest more : List Mark) (o : ℕ) (w : Note) → IsPlayed (mark.Start sc most ∷ rest) → o ≤ length sc.weights →
    Changes o w (mark.Start sc most ∷ rest) more →
    used_of (mark.Start sc most ∷ rest) + w.places ≤ most + (note_of o (mark.Start sc most ∷ rest)).places → IsPlayed ((mark.Start sc most ∷ rest) ++ more)
played_on sc most rest more o w was low is few = record {
  given = was.given;
  legal = subst (IsLegal sc) (sym (same_entries o w (mark.Start sc most ∷ rest) more is)) was.legal;
  within = within;
  few = was.few;
  promises = few_append (mark.Start sc most ∷ rest) more was.promises is.few;
}
  where
    within : used_of ((mark.Start sc most ∷ rest) ++ more) ≤ most
    within = let moved = uses sc most rest more o w low is in omega (arith, moved, few)

-- what a pass may conclude of them
pub has_noted : (o : ℕ) (w : Note) (marks more : List Mark) → IsPlayed marks → o ≤ last_owner marks → Changes o w marks more →
    used_of marks + w.places ≤ most_of marks + (note_of o marks).places →
    HasNoted o w marks (marks ++ more) × (used_of (marks ++ more) + (note_of o marks).places ≡ used_of marks + w.places)
has_noted o w [] more played low is few = absurd (let some = played.given.some in omega (arith, some))
has_noted o w (mark.Entered e ∷ rest) more played low is few = absurd (let some = played.given.some in omega (arith, some))
has_noted o w (mark.Place p n ∷ rest) more played low is few = absurd (let some = played.given.some in omega (arith, some))
has_noted o w (mark.Freed p ∷ rest) more played low is few = absurd (let some = played.given.some in omega (arith, some))
has_noted o w (mark.Start sc most ∷ rest) more played low is few = (
  record {
    noted = is.noted;
    others = λ u apart. is.others u (ne_eqb u o apart);
    entries = same_entries o w (mark.Start sc most ∷ rest) more is;
    scenario = refl;
    most = refl;
    played = played_on sc most rest more o w played low is few;
  },
  uses sc most rest more o w low is,
)

-- What is shared stands with them, if there is room for what is promised then.
pub kept_on : (sc : Scenario) (most : ℕ) (es : List Entry) (ms new : List Stored) (net : Traffic) (notes : List Note) (places room spare hr sr nr o : ℕ) (w : Note) (more : List Mark)
    (places2 room2 spare2 hr2 sr2 nr2 : ℕ) →
    IsKept sc most es ms net notes places room spare hr sr nr → o ≤ length sc.weights → marks_from sc most es new ≡ marks_from sc most es ms ++ more → count_stored new ≡ count_stored ms →
    Changes o w (marks_from sc most es ms) more → used_of (marks_from sc most es ms) + w.places ≤ most + (note_of o (marks_from sc most es ms)).places →
    places2 + (note_of o (marks_from sc most es ms)).places ≡ places + w.places → room2 + (note_of o (marks_from sc most es ms)).room ≡ room + w.room →
    places2 ≤ spare2 → spare2 ≤ hr2 → length new + places2 ≤ sr2 → room2 ≤ nr2 →
    IsKept sc most es new net (set notes o w) places2 room2 spare2 hr2 sr2 nr2
kept_on sc most es ms new net notes places room spare hr sr nr o w more places2 room2 spare2 hr2 sr2 nr2 was low marks_are count is few places_move room_moves for_entries spare_is for_marks for_packets = record {
  stands = (let P : List Mark → Type 0 = λ l. WireStands l net in subst P (sym marks_are) (record {
    played = played_on sc most (marks_of es ms) more o w was.stands.played low is few;
    net = subst (λ h. NetStands sc h net) (sym (same_entries o w M more is)) was.stands.net;
  }));
  whole = was.whole ∙ sym count;
  notes_are = (let P : List Mark → Type 0 = λ l. AreNotes last l (set notes o w) in subst P (sym marks_are) (sets last o M (M ++ more) notes w low was.notes_are is.noted is.others));
  places_are = (let P : List Mark → Type 0 = λ l. places2 ≡ promised last l in
      subst P (sym marks_are) (let moved = places_moved in let f = was.places_are in omega (arith, moved, f, places_move)));
  room_is = (let P : List Mark → Type 0 = λ l. room2 ≡ rooms last l in
      subst P (sym marks_are) (let moved = room_moved in let f = was.room_is in omega (arith, moved, f, room_moves)));
  for_entries = for_entries;
  spare_is = spare_is;
  for_marks = for_marks;
  for_packets = for_packets;
  counted = was.counted;
}
  where
    M : List Mark
    M = marks_from sc most es ms

    last : ℕ
    last = length sc.weights

    places_moved : promised last (M ++ more) + (note_of o M).places ≡ promised last M + w.places
    places_moved = moves (λ v. v.places) o last w M more low is

    room_moved : rooms last (M ++ more) + (note_of o M).room ≡ rooms last M + w.room
    room_moved = moves (λ v. v.room) o last w M more low is
