-- What a run makes of the disks that it was given.
use Rattle.std.specs.Prelude.{◌≡◌, ◌⊎◌, ◌+◌, ◌<◌, ◌≤◌, ◌++◌, ◌∷◌, ℕ, suc, Bool, true, false, List, length, count_by, slice_get, Some}
use Rattle.e3_disk.specs.Images.{IsBlank}
use Rattle.e3_disk.specs.Meaning.{Meaning}
use Rattle.e3_disk.specs.Meters.{Meters, LAST, raised}
use Rattle.e3_fleet.specs.Stops.{NoStopIsPassed, arms_of, calls_in, codes_in, cuts_at}
use Rattle.e3_node.specs.Bodies.{DiskStands, log_with}
use Rattle.e3_node.specs.site_log.Ends.{LacksRoom}
use Rattle.e3_types.specs.declared.entries.Act.{Act}
use Rattle.e3_types.specs.declared.entries.Act.TheVariants.{Fall, RiseFall, Miss}
use Rattle.e3_types.specs.declared.entries.Entry.{Entry}
use Rattle.e3_types.specs.declared.entries.Why.TheVariants.{Fault, Full}
use Rattle.e3_types.specs.declared.scenarios.Scenario.{Scenario}
use Rattle.e3_world.specs.Moves.{log_of, own_entries, rise_records}

-- a disk is blank, has power and is not armed
pub record IsFresh {D : Type 0} (meaning : Meaning D) (disk : D) : Type 0 where
  pub blank : IsBlank meaning disk
  pub lit : (meaning.meters disk).powered ≡ true
  pub unarmed : (meaning.meters disk).calls_left ≡ 0

-- each of these disks is so
abbrev pub AreBlank : {D : Type 0} → Meaning D → List D → Type 0
AreBlank {D} meaning disks = (at : ℕ) (disk : D) → slice_get disks at ≡ Some disk → IsFresh meaning disk

-- the disk failed: a fall, a failed rise or a missed one, but none for want of room
abbrev pub is_fault : Entry → Bool
is_fault e = by e.act
  where
    by : Act → Bool
    by (Fall inputs records Fault) = true
    by (RiseFall kept inc Fault) = true
    by Miss = true
    by _ = false

-- how often its disk failed a site
abbrev pub faults_at : List Entry → ℕ → ℕ
faults_at history site = count_by is_fault (own_entries site history)

-- the count grew by so much at least, or stands at its last value
abbrev pub HasGrownBy : ℕ → ℕ → ℕ → Type 0
HasGrownBy times before now = (before + times ≤ now) ⊎ (now ≡ LAST)

-- where the entry is one for want of room, its numbers are such
abbrev pub HadNoRoom : Scenario → List Entry → ℕ → ℕ → Act → Type 0
HadNoRoom sc before site capacity (Fall inputs records (Full need room)) = LacksRoom capacity (log_of sc before site) records need room
HadNoRoom sc before site capacity (RiseFall kept inc (Full need room)) =
    LacksRoom capacity (log_with sc before site kept) (rise_records sc site inc (log_with sc before site kept)) need room
HadNoRoom sc before site capacity act = Unit {0}

-- all entries of the site for want of room have such numbers
abbrev pub HadNoRooms : Scenario → List Entry → ℕ → ℕ → Type 0
HadNoRooms sc history site capacity = (before after : List Entry) (e : Entry) → history ≡ before ++ e ∷ after → e.owner ≡ site →
    HadNoRoom sc before site capacity e.act

-- In every part of the history from its beginning the site fell by its disk no more often than the disk was armed by then
-- and failed besides its stops: no fall comes of an arm before its step. Counts at their last value tell nothing.
abbrev pub FellByStops : Scenario → List Entry → ℕ → Meters → Meters → Type 0
FellByStops sc history site old new = (before after : List Entry) → history ≡ before ++ after → new.faults < LAST → new.stops < LAST →
    faults_at before site + new.stops + old.faults ≤ length (arms_of sc before site) + new.faults + old.stops

-- What the numbers of a disk came to. It failed as often as its site fell by it, at least. It was armed once for each stop of
-- its site whose line is entered; the calls and the codes of these arms add up to those of the stops; and its power was cut
-- once for each cut of its site.
pub record HasServed (sc : Scenario) (history : List Entry) (site : ℕ) (old new : Meters) : Type 0 where
  pub faults : HasGrownBy (faults_at history site) old.faults new.faults
  pub grows : old.faults ≤ new.faults
  pub capacity : new.capacity ≡ old.capacity
  pub arms : new.arms ≡ raised old.arms (length (arms_of sc history site))
  pub calls : new.calls ≡ raised old.calls (calls_in (arms_of sc history site))
  pub codes : new.codes ≡ raised old.codes (codes_in (arms_of sc history site))
  pub cuts : new.cuts ≡ raised old.cuts (cuts_at history site)
  pub fell : FellByStops sc history site old new
  pub stopped : NoStopIsPassed sc history site

-- what the disk of a site came to: it stands for the site's log, and so it served
pub record IsOver {D : Type 0} (meaning : Meaning D) (sc : Scenario) (history : List Entry) (site : ℕ) (old new : D) : Type 0 where
  pub stands : DiskStands meaning sc history site new
  pub served : HasServed sc history site (meaning.meters old) (meaning.meters new)
  pub rooms : HadNoRooms sc history site (meaning.meters old).capacity

-- What the disks came to, that of site 1 first: each of a site so, and those past the sites of the scenario are as they
-- were.
pub record AreOver {D : Type 0} (meaning : Meaning D) (sc : Scenario) (history : List Entry) (olds news : List D) : Type 0 where
  pub count : length news ≡ length olds
  pub sites : (at : ℕ) (old new : D) → at < length sc.weights → slice_get olds at ≡ Some old → slice_get news at ≡ Some new →
      IsOver meaning sc history (suc at) old new
  pub others : (at : ℕ) (old new : D) → length sc.weights ≤ at → slice_get olds at ≡ Some old → slice_get news at ≡ Some new → new ≡ old
