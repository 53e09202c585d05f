-- The numbers of a disk: its capacity, its power, its arm, its count of faults, and what a drill counts.
use Rattle.std.specs.Prelude.{◌≡◌, ℕ, ◌+◌, ◌-◌, ◌^◌, ◌<◌, ◌≤◌, min, ◌⊎◌, Bool, true, false, Result, IsErrOf, OnOk, OnErr}
use Rattle.e3_disk.specs.declared.fault.DiskFault.{DiskFault}
use Rattle.e3_disk.specs.declared.fault.DiskFault.TheVariants.{Failed}

-- The numbers of a disk. The calls left are those writes and syncs, the stop among them, until an arm runs out: 0 where
-- the disk is not armed. A write that is Full is not counted among them, since it changes nothing.
pub record Meters : Type 0 where
  pub capacity : ℕ
  pub powered : Bool
  pub calls_left : ℕ
  pub faults : ℕ
  pub arms : ℕ
  pub calls : ℕ
  pub codes : ℕ
  pub cuts : ℕ
  pub stops : ℕ

-- The last value that a count can have.
abbrev pub LAST : ℕ
LAST = 2 ^ 64 - 1

-- Each count of a disk has a last value.
pub record IsCounted (m : Meters) : Type 0 where
  pub faults : m.faults ≤ LAST
  pub arms : m.arms ≤ LAST
  pub calls : m.calls ≤ LAST
  pub codes : m.codes ≤ LAST
  pub cuts : m.cuts ≤ LAST
  pub stops : m.stops ≤ LAST

-- A count that rises by so much, and stands still at its last value.
abbrev pub raised : ℕ → ℕ → ℕ
raised before more = min (before + more) LAST

-- A count has risen: it is greater than before, or it stands at its last value.
abbrev pub HasFailed : ℕ → ℕ → Type 0
HasFailed before now = raised before 1 ≤ now

-- What every call of a disk keeps. An arm has never more calls left than before. The stops rise only by one, in a call that
-- clears the arm; the faults never fall, and neither do the faults less the stops.
pub record Keeps (old new : Meters) : Type 0 where
  pub capacity : new.capacity ≡ old.capacity
  pub arms : new.arms ≡ old.arms
  pub calls : new.calls ≡ old.calls
  pub codes : new.codes ≡ old.codes
  pub cuts : new.cuts ≡ old.cuts
  pub faults : old.faults ≤ new.faults
  pub own_faults : new.faults < LAST → old.faults + new.stops ≤ new.faults + old.stops
  pub left : new.calls_left ≤ old.calls_left
  pub stops : (new.stops ≡ old.stops) ⊎ ((new.stops ≡ raised old.stops 1) × (0 < old.calls_left) × (new.calls_left ≡ 0))

-- Why a call failed: the faults rose, or the power was off when it began. Then no fault is counted, and it stays off.
pub record Failing (old new : Meters) : Type 0 where
  pub cause : old.powered ≡ true → HasFailed old.faults new.faults
  pub silent : old.powered ≡ false →
      (new.faults ≡ old.faults) × (new.powered ≡ false) × (new.stops ≡ old.stops) × (new.calls_left ≡ old.calls_left)

-- What a call with Ok finds and leaves: the power is on, and no arm ran out.
pub record Passing (old new : Meters) : Type 0 where
  pub was_on : old.powered ≡ true
  pub is_on : new.powered ≡ true
  pub stops : new.stops ≡ old.stops

-- What a call that only reads does to the numbers.
pub record Reads {T : Type 0} (old new : Meters) (result : Result T DiskFault) : Type 0 where
  pub keeps : Keeps old new
  pub failed : OnErr result (Failing old new)
  pub ok : OnOk result (Passing old new × (new.calls_left ≡ old.calls_left))

-- What a write or a sync does to the numbers. With Ok on an armed disk it finds at least two calls left and takes one.
-- One that finds a single call left, while the power is on, is the stop: the arm is cleared and the power is off. A write
-- that is Full is no such call: it leaves the numbers as they are, whatever is left.
pub record Writes {T : Type 0} (old new : Meters) (result : Result T DiskFault) : Type 0 where
  pub keeps : Keeps old new
  pub failed : IsErrOf result Failed → Failing old new
  pub ok : OnOk result (Passing old new × (old.calls_left ≡ 1 → ⊥) × (new.calls_left ≡ old.calls_left - 1))
  pub stop : old.calls_left ≡ 1 → old.powered ≡ true → IsErrOf result Failed →
      (new.calls_left ≡ 0) × (new.powered ≡ false) × (new.stops ≡ raised old.stops 1)

-- The numbers after an arm of so many calls with a leave of this code: nothing else changes, the power too.
abbrev pub armed : Meters → ℕ → ℕ → Meters
armed m calls code =
    record m { calls_left = calls; arms = raised m.arms 1; calls = raised m.calls calls; codes = raised m.codes code }

-- The numbers after a power cut: the power is off and the arm is cleared.
abbrev pub cut : Meters → Meters
cut m = record m { powered = false; calls_left = 0; cuts = raised m.cuts 1 }

-- The numbers after the power is on again: the arm stays.
abbrev pub lit : Meters → Meters
lit m = record m { powered = true }

-- The numbers of a new disk: it is powered and not armed, and nothing is counted yet.
abbrev pub new_meters : ℕ → Meters
new_meters capacity = record {
  capacity = capacity;
  powered = true;
  calls_left = 0;
  faults = 0;
  arms = 0;
  calls = 0;
  codes = 0;
  cuts = 0;
  stops = 0;
}
