-- Turns of workers, of the one kind or the other.
use Rattle.std.specs.Prelude.{◌<◌, ℕ, List, length, slice_index_or}
use Rattle.atomic_table.specs.Seated.{TableId}
use Rattle.e3_fleet.specs.crew.Workers.{CanTakeItems, CanTakePackets, HasTakenItems, HasTakenPackets}
use Rattle.e3_fleet.specs.declared.crew.forks.Turn.{Turn}
use Rattle.e3_fleet.specs.declared.crew.forks.Turn.TheVariants as turn
use Rattle.e3_fleet.specs.declared.crew.worker.Worker.{Worker}
use Rattle.e3_disk.specs.Meaning.{Meaning}

-- a worker that may have its turn
abbrev pub CanTake : {D : Type 0} → Turn → Meaning D → TableId → Worker D → Type 0
CanTake turn.Items meaning wire w = CanTakeItems meaning wire w
CanTake turn.Packets meaning wire w = CanTakePackets meaning wire w

-- it had its turn
abbrev pub HasTaken : {D : Type 0} → Turn → Meaning D → TableId → Worker D → Worker D → Type 0
HasTaken turn.Items meaning wire before after = HasTakenItems meaning wire before after
HasTaken turn.Packets meaning wire before after = HasTakenPackets meaning wire before after

-- each of them had
abbrev pub AllTook : {D : Type 0} → Turn → Meaning D → TableId → List (Worker D) → List (Worker D) → Type 0
AllTook {D} t meaning wire xs ys =
    (i : ℕ) (d : Worker D) → i < length xs → HasTaken t meaning wire (slice_index_or xs i d) (slice_index_or ys i d)
