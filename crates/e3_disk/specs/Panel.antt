-- How the calls of a disk in memory go on, by its numbers alone.
use Rattle.std.specs.Prelude.{ℕ, ◌-◌, ◌==◌, ◌&&◌, Bool, not, if◌then◌else◌, false, Result, Ok, Err, List}
use Rattle.std.specs.List.{list_any}
use Rattle.e3_disk.specs.declared.fault.DiskFault.{DiskFault}
use Rattle.e3_disk.specs.declared.fault.DiskFault.TheVariants.{Failed}
use Rattle.e3_disk.specs.declared.panel.Panel.{Panel}
use Rattle.e3_disk.specs.declared.panel.Turn.{Turn}
use Rattle.e3_disk.specs.declared.panel.Turn.TheVariants.{Go, Stop, Fail}
use Rattle.e3_disk.specs.Meters.{Meters, raised}

-- The number of a call is listed.
abbrev pub is_listed : List ℕ → ℕ → Bool
is_listed fails number = list_any (λ n. n == number) fails

-- The numbers that a panel shows.
abbrev pub meters_of : Panel → Meters
meters_of p = record {
  capacity = p.capacity;
  powered = p.powered;
  calls_left = p.calls_left;
  faults = p.faults;
  arms = p.arms;
  calls = p.calls;
  codes = p.codes;
  cuts = p.cuts;
  stops = p.stops;
}

-- One of three values, by how a call goes on.
abbrev pub by_turn : {A : Type 0} → Turn → A → A → A → A
by_turn Go go stop fail = go
by_turn Stop go stop fail = stop
by_turn Fail go stop fail = fail

-- Whether a call was answered, for what it does to the numbers.
abbrev pub as_result : Turn → Result ℕ DiskFault
as_result Go = Ok 0
as_result Stop = Err Failed
as_result Fail = Err Failed

-- How a write or a sync goes on: with the power off it fails; with one call left it is the stop; and it fails where its
-- number is listed.
abbrev pub turn_of : Bool → Meters → Turn
turn_of listed m = if m.powered then (if m.calls_left == 1 then Stop else (if listed then Fail else Go)) else Fail

-- The numbers after a call that its list lets fail: one fault more.
abbrev pub faulted : Meters → Meters
faulted m = record m { faults = raised m.faults 1 }

-- The numbers after the stop: the arm is cleared, the power is off, and a fault and a stop are counted.
abbrev pub stopped : Meters → Meters
stopped m = record m { powered = false; calls_left = 0; faults = raised m.faults 1; stops = raised m.stops 1 }

-- The numbers after a write or a sync. One that succeeds takes a call from the arm; one that its list lets fail takes none.
abbrev pub after_turn : Bool → Meters → Meters
after_turn listed m =
    if m.powered then
    (if m.calls_left == 1 then stopped m else (if listed then faulted m else record m { calls_left = m.calls_left - 1 }))
    else m

-- A call that only reads goes on where the power is on and its number is not listed.
abbrev pub goes_on : Bool → Meters → Bool
goes_on listed m = m.powered && not listed

-- The numbers after a call that only reads.
abbrev pub after_read : Bool → Meters → Meters
after_read listed m = if m.powered && listed then faulted m else m
