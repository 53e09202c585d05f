-- What marks say: the scenario, the entries, and what is promised to each owner.
use Rattle.std.specs.Prelude.{◌≡◌, ◌≤◌, ◌<◌, ◌==◌, ◌||◌, ◌+◌, ◌-◌, ◌^◌, ◌∷◌, [], if◌then◌else◌, ℕ, zero, suc, Bool, true, false, List, length, fold, replicate}
use Rattle.std.specs.List.{flat_map}
use Rattle.e3_types.specs.declared.entries.Act.{Act}
use Rattle.e3_types.specs.declared.entries.Act.TheVariants.{Step, Fall, Drop, Parts, Line}
use Rattle.e3_types.specs.declared.entries.Entry.{Entry}
use Rattle.e3_types.specs.declared.scenarios.Scenario.{Scenario}
use Rattle.e3_wire.specs.declared.marks.Mark.{Mark}
use Rattle.e3_wire.specs.declared.marks.Mark.TheVariants as mark
use Rattle.e3_wire.specs.declared.marks.Note.{Note}

-- the mark belongs to the owner; the first and an entry of the driver belong to all
abbrev pub belongs : Mark → ℕ → Bool
belongs (mark.Start sc most) o = true
belongs (mark.Entered e) o = e.owner == 0 || e.owner == o
belongs (mark.Place owner outs) o = owner == o
belongs (mark.Freed owner) o = owner == o

-- none of these marks belongs to the owner
abbrev pub AreForeign : ℕ → List Mark → Type 0
AreForeign o [] = Unit {0}
AreForeign o (m ∷ marks) = (belongs m o ≡ false) × AreForeign o marks

-- the scenario without sites and steps
abbrev pub no_scenario : Scenario
no_scenario = record { weights = []; rows = []; loss = 0; repeat = 0; luck = 0; steps = [] }

-- the scenario of the first mark, which each chronicle begins with
abbrev pub scenario_of : List Mark → Scenario
scenario_of (mark.Start sc most ∷ marks) = sc
scenario_of marks = no_scenario

-- how many entries the history may have, as the first mark says
abbrev pub most_of : List Mark → ℕ
most_of (mark.Start sc most ∷ marks) = most
most_of marks = 0

abbrev entry_in : Mark → List Entry
entry_in (mark.Entered e) = e ∷ []
entry_in m = []

-- the history that marks make
abbrev pub entries_of : List Mark → List Entry
entries_of marks = flat_map entry_in marks

-- the last owner: owners are the driver, 0, and the sites
abbrev pub last_owner : List Mark → ℕ
last_owner marks = length (scenario_of marks).weights

-- 32 bits count the packets of the promise
abbrev pub IsFew : Mark → Type 0
IsFew (mark.Place owner outs) = outs < 2 ^ 32
IsFew m = Unit {0}

-- and those of each promise
abbrev pub AreFew : List Mark → Type 0
AreFew [] = Unit {0}
AreFew (m ∷ marks) = IsFew m × AreFew marks

-- nothing is promised
abbrev pub nothing : Note
nothing = record { places = 0; room = 0 }

-- what an act leaves of a note: an entry of a site uses a place, and a step the room of its packets; a fall uses a place for
-- each of its inputs, and gives all room back; the driver's use nothing
abbrev pub used_by : Note → Act → Note
used_by w (Step i records outs events) = record { places = w.places - 1; room = w.room - length outs }
used_by w (Fall inputs records why) = record { places = w.places - length inputs; room = 0 }
used_by w (Drop packet) = w
used_by w (Parts parts) = w
used_by w (Line number) = w
used_by w act = record w { places = w.places - 1 }

-- the note of an owner behind one more mark
abbrev pub note_by : ℕ → Note → Mark → Note
note_by o w (mark.Start sc most) = w
note_by o w (mark.Entered e) = if e.owner == o then used_by w e.act else w
note_by o w (mark.Place owner outs) = if owner == o then record { places = suc w.places; room = w.room + outs } else w
note_by o w (mark.Freed owner) = if owner == o then nothing else w

-- what is promised to an owner behind these marks
abbrev pub note_of : ℕ → List Mark → Note
note_of o marks = fold (note_by o) nothing marks

-- f of each number from 0 to the last, added up
abbrev pub total : (ℕ → ℕ) → ℕ → ℕ
total f zero = f 0
total f (suc n) = total f n + f (suc n)

-- how many places are promised to the owners up to the last
abbrev pub promised : ℕ → List Mark → ℕ
promised last marks = total (λ o. (note_of o marks).places) last

-- and room for how many packets
abbrev pub rooms : ℕ → List Mark → ℕ
rooms last marks = total (λ o. (note_of o marks).room) last

-- how many entries and promised places there are
abbrev pub used_of : List Mark → ℕ
used_of marks = length (entries_of marks) + promised (last_owner marks) marks

-- so many promises of a place without room
abbrev pub places_for : ℕ → ℕ → List Mark
places_for owner n = replicate n (mark.Place owner 0)

-- neither a place nor room is promised to any owner
abbrev pub NothingIsPromised : List Mark → Type 0
NothingIsPromised marks = (o : ℕ) → o ≤ last_owner marks → note_of o marks ≡ nothing

-- this entry uses all that is promised to its owner
abbrev pub UsesAll : List Mark → Entry → Type 0
UsesAll marks e = used_by (note_of e.owner marks) e.act ≡ nothing
