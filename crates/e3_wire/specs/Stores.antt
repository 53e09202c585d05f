-- How marks are stored, and what is always true of what is stored.
use Rattle.std.specs.Prelude.{◌≡◌, ◌≤◌, ◌+◌, ◌-◌, ◌*◌, ◌^◌, ◌∷◌, [], ℕ, suc, List, length, slice_index_or}
use Rattle.e3_types.specs.declared.entries.Entry.{Entry}
use Rattle.e3_types.specs.declared.scenarios.Scenario.{Scenario}
use Rattle.e3_net.specs.Traffic.{Traffic}
use Rattle.e3_wire.specs.declared.marks.Mark.{Mark}
use Rattle.e3_wire.specs.declared.marks.Mark.TheVariants as mark
use Rattle.e3_wire.specs.declared.marks.Note.{Note}
use Rattle.e3_wire.specs.declared.marks.Stored.{Stored}
use Rattle.e3_wire.specs.declared.marks.Stored.TheVariants as stored
use Rattle.e3_wire.specs.Marks.{note_of, nothing, promised, rooms}
use Rattle.e3_wire.specs.Wires.{WireStands}

-- the marks behind the first, each entry from the history in its order
abbrev pub marks_of : List Entry → List Stored → List Mark
marks_of es [] = []
marks_of [] (stored.Entered ∷ ms) = marks_of [] ms
marks_of (e ∷ es) (stored.Entered ∷ ms) = mark.Entered e ∷ marks_of es ms
marks_of es (stored.Place o n ∷ ms) = mark.Place o n ∷ marks_of es ms
marks_of es (stored.Freed o ∷ ms) = mark.Freed o ∷ marks_of es ms

-- all marks
abbrev pub marks_from : Scenario → ℕ → List Entry → List Stored → List Mark
marks_from sc most es ms = mark.Start sc most ∷ marks_of es ms

-- how many entries are stored
abbrev pub count_stored : List Stored → ℕ
count_stored [] = 0
count_stored (stored.Entered ∷ ms) = suc (count_stored ms)
count_stored (stored.Place o n ∷ ms) = count_stored ms
count_stored (stored.Freed o ∷ ms) = count_stored ms

-- these are the notes of the owners up to the last
pub record AreNotes (last : ℕ) (marks : List Mark) (notes : List Note) : Type 0 where
  pub count : length notes ≡ suc last
  pub each : (o : ℕ) → o ≤ last → slice_index_or notes o nothing ≡ note_of o marks

-- What is shared stands, the marks have just the entries of the history, the notes and the numbers tell what is promised, there
-- is spare room for all of it, and no entry sent more packets than 32 bits count.
pub record IsKept (sc : Scenario) (most : ℕ) (es : List Entry) (ms : List Stored) (net : Traffic) (notes : List Note)
    (places room spare history_room stored_room net_room : ℕ) : Type 0 where
  pub stands : WireStands (marks_from sc most es ms) net
  pub whole : length es ≡ count_stored ms
  pub notes_are : AreNotes (length sc.weights) (marks_from sc most es ms) notes
  pub places_are : places ≡ promised (length sc.weights) (marks_from sc most es ms)
  pub room_is : room ≡ rooms (length sc.weights) (marks_from sc most es ms)
  pub for_entries : places ≤ spare
  pub spare_is : spare ≤ history_room
  pub for_marks : length ms + places ≤ stored_room
  pub for_packets : room ≤ net_room
  pub counted : net.sent ≤ (2 ^ 32 - 1) * length es
