-- How a frame of records is written, or not.
use Rattle.std.specs.Prelude.{◌≡◌, ◌≢◌, ◌⊎◌, ◌+◌, ◌<◌, ◌≤◌, ◌∷◌, [], ℕ, nat_lt, if◌then◌else◌, List, Option, Some, None, length}
use Rattle.e3_codec.specs.Fields.{AllCanBeReadBack}
use Rattle.e3_disk.specs.Meters.{Meters, HasFailed}
use Rattle.e3_world.specs.Brief.{brief}
use Rattle.e3_log.specs.Frames.{frames}
use Rattle.e3_log.specs.Regions.{limit, other, start}
use Rattle.e3_log.specs.Stands.{LogState}
use Rattle.e3_log.specs.declared.fault.AppendFault.{AppendFault}
use Rattle.e3_log.specs.declared.fault.AppendFault.TheVariants as append_fault
use Rattle.e3_log.specs.declared.fault.TurnFault.{TurnFault}
use Rattle.e3_log.specs.declared.fault.TurnFault.TheVariants as turn_fault
use Rattle.e3_log.specs.declared.region.Region.{Region}
use Rattle.e3_node.specs.site_log.Bodies.{body_of, counted}
use Rattle.e3_node.specs.declared.site_log.writing.Short.{Short}
use Rattle.e3_types.specs.Spelling.{spelling}
use Rattle.e3_types.specs.declared.entries.Why.{Why}
use Rattle.e3_types.specs.declared.entries.Why.TheVariants.{Fault, Full}
use Rattle.e3_types.specs.declared.records.Record.{Record}

-- how many bytes the spelling of these records has
abbrev pub size_of : List Record → ℕ
size_of records = length (spelling records)

-- Where the first frame ends that has no room in a region, which begins and ends at these places, of a log that is turned to
-- this brief there and then has the frame of these records: that of the brief, or the one behind it, each with the closed gate
-- behind it.
abbrev pub turned_end : ℕ → ℕ → List Record → List Record → ℕ
turned_end from to short records =
    if nat_lt to (from + 11 + size_of short) then from + 11 + size_of short else from + 16 + size_of short + size_of records

-- the same of these records behind a log: an empty one is not turned
abbrev pub frame_end : ℕ → ℕ → List Record → List Record → ℕ
frame_end from to [] records = from + 6 + size_of records
frame_end from to (r ∷ rs) records = turned_end from to (brief (r ∷ rs)) records

-- The frame of these records had no room behind this log on a disk of this capacity: `room` is the end of a region, and `need`
-- passes it. It is the end of the frame behind the brief of the log, or of the brief's own; of an empty log the end of the frame.
pub record LacksRoom (capacity : ℕ) (log records : List Record) (need room : ℕ) : Type 0 where
  pub region : Region
  pub room_is : room ≡ limit capacity region
  pub past : room < need
  pub need_is : need ≡ frame_end (start capacity region) room log records

-- The reason is true: the disk's count of faults rose, or the frame had no room.
abbrev pub IsReason : Why → List Record → List Record → Meters → Meters → Type 0
IsReason Fault log records old new = HasFailed old.faults new.faults
IsReason (Full need room) log records old new = LacksRoom old.capacity log records need room

-- why a frame was not added, and why a log was not turned
abbrev pub why_of : AppendFault → Why
why_of append_fault.Failed = Fault
why_of (append_fault.Full need room) = Full need room

abbrev pub turn_why : TurnFault → Why
turn_why (turn_fault.Full need room) = Full need room
turn_why turn_fault.Failed = Fault
turn_why turn_fault.NoMemory = Fault

-- the short log to which a log of the site is turned
pub record IsShortOf (site : ℕ) (log : List Record) (short : Short) : Type 0 where
  pub body_is : short.body ≡ spelling (brief log)
  pub count_is : short.count ≡ counted (length (brief log))
  pub back : AllCanBeReadBack site (brief log)
  pub some : log ≢ []

-- it is such a log, where there is one
abbrev pub IsShortIf : ℕ → List Record → Option Short → Type 0
IsShortIf site log None = Unit {0}
IsShortIf site log (Some short) = IsShortOf site log short

-- The log may be turned to it: it has a body, and 32 bits count one turn more.
abbrev pub MayTurn : {D : Type 0} → LogState D → Option Short → Type 0
MayTurn on_disk None = Unit {0}
MayTurn on_disk (Some short) = (on_disk.generation < 4294967295) × (0 < length short.body)

-- a body of this length has room behind a log
abbrev pub HasRoom : {D : Type 0} → (D → Meters) → LogState D → ℕ → Type 0
HasRoom meters on_disk size = on_disk.end + 6 + size ≤ limit (meters on_disk.disk).capacity on_disk.region

-- Without a short log the body has room, or the log is empty.
abbrev pub HasRoomUnlessShort : {D : Type 0} → (D → Meters) → LogState D → List Record → Option Short → ℕ → Type 0
HasRoomUnlessShort meters on_disk log None size = HasRoom meters on_disk size ⊎ (log ≡ [])
HasRoomUnlessShort meters on_disk log (Some short) size = Unit {0}

-- The frame of these records is behind the frames before it: the log was not turned, and the other region is as it was.
pub record IsBehind {D : Type 0} (old : LogState D) (records : List Record) (new : LogState D) : Type 0 where
  pub region : new.region ≡ old.region
  pub generation : new.generation ≡ old.generation
  pub spare : new.spare_open ≡ old.spare_open
  pub end : new.end ≡ old.end + length (frames (body_of records))

-- It is behind a short log, in the other region: the log was turned to that, once.
pub record IsTurned {D : Type 0} (meters : D → Meters) (old : LogState D) (short : List ℕ) (records : List Record) (new : LogState D) : Type 0 where
  pub region : new.region ≡ other old.region
  pub generation : new.generation ≡ old.generation + 1
  pub end : new.end ≡ start (meters old.disk).capacity (other old.region) + 10 + length short + length (frames (body_of records))

-- It is where a write puts it: behind the frames before it, or behind the short log that was given.
abbrev pub IsPut : {D : Type 0} → (D → Meters) → LogState D → Option Short → List Record → LogState D → Type 0
IsPut meters old None records new = IsBehind old records new
IsPut meters old (Some short) records new = IsBehind old records new ⊎ IsTurned meters old short.body records new

-- An arm that has not run out has been taken so many calls at least, and has some left.
abbrev pub Takes : ℕ → Meters → Meters → Type 0
Takes n old new = 0 < old.calls_left → (0 < new.calls_left) × (new.calls_left + n ≤ old.calls_left)

-- the calls that the frame of these records takes: none where there are no records
abbrev pub calls_for : List Record → ℕ
calls_for [] = 0
calls_for (r ∷ rs) = 4
