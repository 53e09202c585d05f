-- A disk in memory, as its callers see it, and what each call makes of it.
use Rattle.std.specs.Prelude.{◌≡◌, ◌≢◌, ◌⊎◌, ℕ, ◌+◌, ◌-◌, nat_lt, Bool, true, IsTrue, if◌then◌else◌, Result, Ok, Err, List, length}
use Rattle.e3_types.specs.declared.scenarios.Leave.{Leave}
use Rattle.e3_types.specs.declared.scenarios.Leave.TheVariants as leaves
use Rattle.e3_disk.specs.declared.fault.DiskFault.{DiskFault}
use Rattle.e3_disk.specs.declared.fault.DiskFault.TheVariants.{Failed, Full}
use Rattle.e3_disk.specs.declared.memory.MemDisk.{MemDisk}
use Rattle.e3_disk.specs.declared.panel.Turn.{Turn}
use Rattle.e3_disk.specs.declared.store.Store.{Store}
use Rattle.e3_disk.specs.Images.{Torn, blank_bytes}
use Rattle.e3_disk.specs.Meaning.{Meaning}
use Rattle.e3_disk.specs.Meters.{Meters, raised, armed, cut, lit, new_meters}
use Rattle.e3_disk.specs.Leaves.{code_of}
use Rattle.e3_disk.specs.Panel.{is_listed, meters_of, by_turn, turn_of, after_turn, goes_on, after_read}
use Rattle.e3_disk.specs.Stored.{Stored, settled, written, left}

-- The bytes that a store keeps.
abbrev pub stored_of : Store → Stored
stored_of s = record { content = s.content.bytes; durable = s.durable.bytes; from = s.from; to = s.to }

-- A disk in memory: its bytes, its numbers, what the next stop leaves, the numbers of the calls that fail, how many of its
-- calls were made that answer a result, and how many of those were writes and syncs.
pub record DiskState : Type 0 where
  pub bytes : Stored
  pub meters : Meters
  pub leave : Leave
  pub fails : List ℕ
  pub calls : ℕ
  pub writes : ℕ

-- The state of a disk in memory.
abbrev pub state_of : MemDisk → DiskState
state_of d = record {
  bytes = stored_of d.store;
  meters = meters_of d.panel;
  leave = d.panel.leave;
  fails = d.schedule.fails;
  calls = d.schedule.calls;
  writes = d.writes;
}

-- The images that a crash now may leave: of the durable bytes, with the pending range torn.
abbrev pub images_of : DiskState → List ℕ → Type 0
images_of s image = Torn s.bytes.from (s.bytes.to - s.bytes.from) s.bytes.durable image

-- What a disk in memory means.
abbrev pub memory_meaning : Meaning MemDisk
memory_meaning = record {
  content = λ d. (state_of d).bytes.content;
  image = λ d. images_of (state_of d);
  meters = λ d. (state_of d).meters;
}

-- A blank disk of this capacity, of which these calls are to fail.
abbrev pub blank_state : ℕ → List ℕ → DiskState
blank_state capacity fails = record {
  bytes = record { content = blank_bytes capacity; durable = blank_bytes capacity; from = 0; to = 0 };
  meters = new_meters capacity;
  leave = leaves.None;
  fails = fails;
  calls = 0;
  writes = 0;
}

-- Calls are numbered from 1.
abbrev pub next_call : DiskState → ℕ
next_call s = raised s.calls 1

-- One more write or sync was asked of this disk.
abbrev pub next_write : DiskState → ℕ
next_write s = raised s.writes 1

-- The next call of this disk is listed.
abbrev pub fails_next : DiskState → Bool
fails_next s = is_listed s.fails (next_call s)

-- The next call of this disk goes on, if it only reads.
abbrev pub reads_next : DiskState → Bool
reads_next s = goes_on (fails_next s) s.meters

-- The disk after a call that only reads.
abbrev pub after_look : DiskState → DiskState
after_look s = record s { meters = after_read (fails_next s) s.meters; calls = next_call s }

-- A write of so many bytes at this place passes the capacity.
abbrev pub is_full : ℕ → List ℕ → DiskState → Bool
is_full place bytes s = nat_lt s.meters.capacity (place + length bytes)

-- How the next call goes on, if it is a write or a sync.
abbrev pub next_turn : DiskState → Turn
next_turn s = turn_of (fails_next s) s.meters

-- What a write answers.
abbrev pub write_answer : ℕ → List ℕ → DiskState → Result (Unit {0}) DiskFault
write_answer place bytes s =
    if is_full place bytes s then Err (Full (place + length bytes) s.meters.capacity)
    else by_turn (next_turn s) (Ok tt) (Err Failed) (Err Failed)

-- The disk after a write. One that is Full is numbered and counted, and changes nothing else. The stop finds the range pending.
abbrev pub after_write : ℕ → List ℕ → DiskState → DiskState
after_write place bytes s =
    if is_full place bytes s then record s { calls = next_call s; writes = next_write s }
    else record s {
      bytes = by_turn (next_turn s) (written place bytes s.bytes) (left s.leave (written place bytes s.bytes)) s.bytes;
      meters = after_turn (fails_next s) s.meters;
      calls = next_call s;
      writes = next_write s;
    }

-- What a sync answers.
abbrev pub sync_answer : DiskState → Result (Unit {0}) DiskFault
sync_answer s = by_turn (next_turn s) (Ok tt) (Err Failed) (Err Failed)

-- The disk after a sync.
abbrev pub after_sync : DiskState → DiskState
after_sync s = record s {
  bytes = by_turn (next_turn s) (settled 0 s.bytes) (left s.leave s.bytes) s.bytes;
  meters = after_turn (fails_next s) s.meters;
  calls = next_call s;
  writes = next_write s;
}

-- The disk after an arm.
abbrev pub after_arm : ℕ → Leave → DiskState → DiskState
after_arm calls leave s = record s { meters = armed s.meters calls (code_of leave); leave = leave }

-- The disk after a power cut, which leaves nothing of the pending range.
abbrev pub after_cut : DiskState → DiskState
after_cut s = record s { bytes = left leaves.None s.bytes; meters = cut s.meters }

-- The disk after the power is on again.
abbrev pub after_power : DiskState → DiskState
after_power s = record s { meters = lit s.meters }

-- The faults rise only where the power was on when the call began, and the arm runs out or the call is listed.
abbrev pub CountsOnlyOwn : DiskState → DiskState → Type 0
CountsOnlyOwn old new = new.meters.faults ≢ old.meters.faults →
    (old.meters.powered ≡ true) × ((old.meters.calls_left ≡ 1) ⊎ IsTrue (fails_next old))
