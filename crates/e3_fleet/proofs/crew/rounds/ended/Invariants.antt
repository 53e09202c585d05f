use Rattle.std.proofs.Common.{◌≡◌, ◌<◌, ℕ}
use Rattle.std.specs.Prelude.{Ok, slice_index_or}
use Rattle.e3_fleet.specs.declared.crew.worker.Worker.{Worker}
use Rattle.e3_fleet.proofs.crew.rounds.ended.Given as goal

abbrev pub invariant-loop-worker : goal.invariant-loop-worker
invariant-loop-worker g l = record {
  well : (i : ℕ) (d : Worker g.row.D.Denot) → i < l.worker-index → (slice_index_or l.workers i d).ended ≡ Ok tt;
}
