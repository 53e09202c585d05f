use Rattle.std.proofs.Common.{◌≡◌, ◌≤◌, ◌+◌, ◌++◌, length}
use Rattle.std.specs.Prelude.{vec_capacity, vec_len}
use Rattle.e3_fleet.specs.Fleets.{disks_of, nodes_of}
use Rattle.e3_fleet.proofs.seating.unseat_all.Given as goal

abbrev pub invariant-loop-worker : goal.invariant-loop-worker
invariant-loop-worker g l = record {
  joined : disks_of (nodes_of l.workers.items) ++ l.disks.items ≡ disks_of (nodes_of l.fn.workers.items) ++ l.fn.disks.items;
  room : vec_len l.disks + length l.workers.items ≤ vec_capacity l.disks;
}

abbrev pub decreases-loop-worker : goal.decreases-loop-worker
decreases-loop-worker g l = length l.workers.items
