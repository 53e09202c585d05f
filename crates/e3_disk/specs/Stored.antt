-- The bytes of a disk in memory, and what writes, syncs and stops make of them.
use Rattle.std.specs.Prelude.{ℕ, ◌+◌, ◌&&◌, nat_le, min, max, if◌then◌else◌, List, length}
use Rattle.e3_types.specs.declared.scenarios.Leave.{Leave}
use Rattle.e3_disk.specs.Images.{overwritten}
use Rattle.e3_disk.specs.Leaves.{left_by}

-- What a read gives, what is durable, and the pending range, which was written since the last sync.
pub record Stored : Type 0 where
  pub content : List ℕ
  pub durable : List ℕ
  pub from : ℕ
  pub to : ℕ

-- All is durable, and an empty range begins at this place.
abbrev pub settled : ℕ → Stored → Stored
settled place s = record { content = s.content; durable = s.content; from = place; to = place }

-- A write joins the pending range.
abbrev pub joined : ℕ → List ℕ → Stored → Stored
joined place bytes s = record {
  content = overwritten s.content place bytes;
  durable = s.durable;
  from = min s.from place;
  to = max s.to (place + length bytes);
}

-- A write: where its range neither touches nor overlaps the pending range, that is made durable first.
abbrev pub written : ℕ → List ℕ → Stored → Stored
written place bytes s =
    joined place bytes (if nat_le place s.to && nat_le s.from (place + length bytes) then s else settled place s)

-- A stop: what it leaves is all that stands from then on.
abbrev pub left : Leave → Stored → Stored
left leave s = record {
  content = left_by leave s.from s.to s.content s.durable;
  durable = left_by leave s.from s.to s.content s.durable;
  from = 0;
  to = 0;
}
