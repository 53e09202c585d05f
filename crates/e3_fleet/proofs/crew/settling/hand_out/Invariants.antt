use Rattle.std.proofs.Common.{◌≡◌, ◌<◌, ◌≤◌, ℕ}
use Rattle.std.specs.Prelude.{slice_index_or}
use Rattle.e3_fleet.specs.crew.Workers.{HasItems}
use Rattle.e3_fleet.specs.declared.crew.worker.Worker.{Worker}
use Rattle.e3_fleet.proofs.crew.settling.hand_out.Given as goal

abbrev pub invariant-loop-worker : goal.invariant-loop-worker
invariant-loop-worker g l = record {
  handed : (i : ℕ) (d : Worker g.row.D.Denot) → i < l.worker-index → HasItems l.inputs (slice_index_or l.initial.workers i d) (slice_index_or l.workers i d);
  later : (i : ℕ) (d : Worker g.row.D.Denot) → l.worker-index ≤ i → slice_index_or l.workers i d ≡ slice_index_or l.initial.workers i d;
}
