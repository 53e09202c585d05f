use Rattle.std.proofs.Common.{◌≡◌, ◌≤◌, ◌++◌, [], length}
use Rattle.std.specs.Prelude.{vec_capacity}
use Rattle.e3_fleet.specs.Fleets.{AreSeated, disks_of, nodes_of}
use Rattle.e3_fleet.specs.Over.{AreBlank}
use Rattle.e3_fleet.proofs.seating.seat_all.Given as goal

abbrev pub invariant-loop-seated : goal.invariant-loop-seated
invariant-loop-seated g l = record {
  nodes_seated : AreSeated g.D.Disk.meaning l.scenario [] (nodes_of l.workers.items);
  number : length l.workers.items ≡ l.seated;
  joined : disks_of (nodes_of l.workers.items) ++ l.disks.items ≡ l.fn.disks.items;
  blank : AreBlank g.D.Disk.meaning l.disks.items;
  room : l.count ≤ vec_capacity l.workers;
  capacity : vec_capacity l.disks ≡ vec_capacity l.fn.disks;
}
